-- A unit and the `*` behind it, sign by sign, on values alone.
use Rattle.std.proofs.Common.{◌≡◌, ℕ, Bool, true, false, cond, List, None, Ok, Err, Option, Result, sym, refl, ap, ◌∙◌}
use Rattle.signs.specs.Signs.{Mark}
use Rattle.sheet.specs.declared.named.Named.{Named}
use Rattle.grammar.specs.Reading.{Ahead, Built, Grown, Machine, Pulled, bind_built, bind_pulled, end_fits, faulty, grown, is_repeating, judge, judged, over, pull, sign, stars_at, stars_from}
use Rattle.kat.specs.Terms.{Term, star}
use Rattle.grammar.specs.declared.fault.RuleFault.{RuleFault}
use Rattle.grammar.specs.declared.fault.RuleFault.TheVariants.{Unfit}
use Rattle.rules.specs.Builders.{Shape, leaf_shape, shape_of, shown_built, shown_grown}
use Rattle.rules.specs.Readers.{Standing}
use Rattle.rules.specs.declared.node.Node.{Node}
use Rattle.rules.specs.declared.node.Node.TheVariants.{Star}
use Rattle.rules.proofs.Shapes.{wrapped_is}

-- the part with the sign that was pulled behind it, where the reader then stands
abbrev pub followed : Shape → Option Mark → Standing → Shape
followed s mark mid = record { root = s.root; test = s.test; next = mark; then = mid }

-- the same with a `*`
abbrev pub repeated : Shape → Standing → Shape
repeated s mid = leaf_shape (Star s.root) false mid

module _ (means : List ℕ → Option Named) (levels : ℕ) where
  -- what follows a sign that was pulled behind a unit
  abbrev pub behind_unit : Term → Pulled → Result Grown RuleFault
  behind_unit e p = cond (is_repeating p.mark) (stars_from means levels p.ahead (star e) p.machine) (Ok (grown e p.mark p.ahead p.machine))

  pub stars_pull : (ahead : Ahead) (e : Term) (m : Machine) → stars_from means levels ahead e m ≡ bind_pulled (pull means levels ahead m) (behind_unit e)
  stars_pull (sign k ahead) e m = go (judge means levels k m)
    where
      go : (r : Result Machine RuleFault) → stars_at k ahead e (λ behind. stars_from means levels ahead (star e) behind) r ≡ bind_pulled (judged k ahead r) (behind_unit e)
      go (Ok n) = refl
      go (Err fault) = refl
  stars_pull (over place) e m = go (end_fits m) (record { mark = None; ahead = over place; machine = m }) (grown e None (over place) m) refl
    where
      go : (b : Bool) (p : Pulled) (g : Grown) → behind_unit e p ≡ Ok g → cond {A = Result Grown RuleFault} b (Ok g) (Err (Unfit place)) ≡ bind_pulled (cond {A = Result Pulled RuleFault} b (Ok p) (Err (Unfit place))) (behind_unit e)
      go true p g h = sym h
      go false p g h = refl
  stars_pull (faulty fault) e m = refl

  abbrev pub starred : Built → Result Grown RuleFault
  starred b = stars_from means levels b.ahead b.term b.machine

  -- from the part s turns of the loop led to the part t: the step that is read from either is the same
  pub record Turned (s t : Shape) : Type 0 where
    pub same : (used : ℕ) (nodes : List Node) (d : Result Built RuleFault) → Ok s ≡ shown_built used nodes d
        → (b : Built) × (Ok t ≡ shown_built used nodes (Ok b)) × (starred b ≡ bind_built d starred)

  -- the step that is read from a part whose next sign was pulled
  pulled_step : (used : ℕ) (nodes : List Node) (b : Built) (t : Shape) (r : Result Pulled RuleFault) → Ok t ≡ shown_built used nodes (Ok b) → r ≡ pull means levels t.then.ahead t.then.machine
      → starred b ≡ bind_pulled r (behind_unit b.term)
  pulled_step used nodes b t r e h =
      let same : t ≡ shape_of used nodes b.term None b.ahead b.machine = cc in
      let here : r ≡ pull means levels b.ahead b.machine = h ∙ ap (λ t. pull means levels t.then.ahead t.then.machine) same in
      stars_pull b.ahead b.term b.machine ∙ ap (λ r. bind_pulled r (behind_unit b.term)) (sym here)

  pub turned_err : (s t : Shape) (fault : RuleFault) → Turned s t → Err fault ≡ pull means levels t.then.ahead t.then.machine
      → (used : ℕ) (nodes : List Node) (d : Result Built RuleFault) → Ok s ≡ shown_built used nodes d → Err fault ≡ shown_grown used nodes (bind_built d starred)
  turned_err s t fault turned h used nodes d e = go (turned.same used nodes d e)
    where
      go : (b : Built) × (Ok t ≡ shown_built used nodes (Ok b)) × (starred b ≡ bind_built d starred) → Err fault ≡ shown_grown used nodes (bind_built d starred)
      go (b, is, eq) = ap (shown_grown used nodes) (sym (pulled_step used nodes b t (Err fault) is h) ∙ eq)

  -- a pull puts down no node
  module _ (s t : Shape) (mark : Option Mark) (mid : Standing) (used : mid.used ≡ t.then.used) (nodes : mid.nodes ≡ t.then.nodes) (turned : Turned s t)
      (pulled : Ok (record { mark = mark; ahead = mid.ahead; machine = mid.machine }) ≡ pull means levels t.then.ahead t.then.machine) where
    stays : mid ≡ record { ahead = mid.ahead; machine = mid.machine; used = t.then.used; nodes = t.then.nodes }
    stays =
        let same : ◌≡◌ {A = Standing} (record { ahead = mid.ahead; machine = mid.machine; used = mid.used; nodes = mid.nodes }) (record { ahead = mid.ahead; machine = mid.machine; used = t.then.used; nodes = t.then.nodes }) = cc in
        same

    pub turned_end : is_repeating mark ≡ false
        → (used : ℕ) (nodes : List Node) (d : Result Built RuleFault) → Ok s ≡ shown_built used nodes d → Ok (followed t mark mid) ≡ shown_grown used nodes (bind_built d starred)
    turned_end other used nodes d e = go (turned.same used nodes d e)
      where
        go : (b : Built) × (Ok t ≡ shown_built used nodes (Ok b)) × (starred b ≡ bind_built d starred) → Ok (followed t mark mid) ≡ shown_grown used nodes (bind_built d starred)
        go (b, is, eq) =
            let same : t ≡ shape_of used nodes b.term None b.ahead b.machine = cc in
            let ends : starred b ≡ Ok (grown b.term mark mid.ahead mid.machine) = pulled_step used nodes b t _ is pulled ∙ rw other in
            ap (λ mid. Ok (followed t mark mid)) stays
            ∙ ap (λ t. Ok (followed t mark (record { ahead = mid.ahead; machine = mid.machine; used = t.then.used; nodes = t.then.nodes }))) same
            ∙ ap (shown_grown used nodes) (sym ends ∙ eq)

    pub turned_more : is_repeating mark ≡ true → Turned s (repeated t mid)
    turned_more more = record { same = λ used nodes d e. go used nodes d (turned.same used nodes d e) }
      where
        go : (used : ℕ) (nodes : List Node) (d : Result Built RuleFault) → (b : Built) × (Ok t ≡ shown_built used nodes (Ok b)) × (starred b ≡ bind_built d starred)
            → (b : Built) × (Ok (repeated t mid) ≡ shown_built used nodes (Ok b)) × (starred b ≡ bind_built d starred)
        go used nodes d (b, is, eq) =
            let same : t ≡ shape_of used nodes b.term None b.ahead b.machine = cc in
            let on : starred b ≡ stars_from means levels mid.ahead (star b.term) mid.machine = pulled_step used nodes b t _ is pulled ∙ rw more in
            let laid = wrapped_is used nodes b.term (star b.term) Star None mid.ahead mid.machine refl refl in (
              record { term = star b.term; ahead = mid.ahead; machine = mid.machine },
              ap (λ mid. Ok (repeated t mid)) stays
                  ∙ ap (λ t. Ok (repeated t (record { ahead = mid.ahead; machine = mid.machine; used = t.then.used; nodes = t.then.nodes }))) same
                  ∙ ap Ok laid,
              sym on ∙ eq,
            )

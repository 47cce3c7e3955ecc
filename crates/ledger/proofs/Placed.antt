-- What the place of a new flow says of the walks that were made.
use Rattle.std.proofs.Common.{◌≡◌, ℕ, zero, suc, ◌+◌, Bool, true, false, cond, eqb, List, [], ◌∷◌, refl, ap, ◌∙◌, subst, arith}
use Rattle.std.proofs.lemmas.Bool.{both_ways, eq-eqb}
use Rattle.runs.specs.Flows.{FlowMeaning}
use Rattle.runs.specs.Walks.{Ending, different, equal, full}
use Rattle.sheet.specs.Laid.{LaidOut}
use Rattle.walk.specs.Judged.{walk_of}
use Rattle.ledger.specs.Joining.{Place, alone, decided, joins, no_room, place_from}
use Rattle.ledger.specs.Ledgers.{Filed, first_marked, flow_of}
use Rattle.ledger.proofs.Positions.{At}

module _ (laid : LaidOut) (new : FlowMeaning) (room : ℕ) (all : List Filed) where
  -- The walk of the new flow against a filed one told them apart.
  abbrev pub ToldApart : Filed → Type 0
  ToldApart g = (d : ℕ) × (walk_of new (flow_of laid g.shape) room ≡ different d)

  -- Of the flows from position i on: to join a mark, a walk against a flow with it ended equal; to be alone, each walk against the first of a group told
  -- the two apart.
  abbrev pub Says : ℕ → List Filed → Place → Type 0
  Says i rest (joins mark) = (j : ℕ) × (g : Filed) × (count : ℕ) × At rest j g × (g.mark ≡ mark) × (walk_of new (flow_of laid g.shape) room ≡ equal count)
  Says i rest alone = (j : ℕ) (g : Filed) → At rest j g → first_marked all g.mark ≡ i + j → ToldApart g
  Says i rest (no_room position) = Unit {0}

  -- What is said of the later flows is said with one more in front, if this is told apart where it is the first of a group.
  one_in_front : (i : ℕ) (f : Filed) (rest : List Filed) (place : Place) → (first_marked all f.mark ≡ i → ToldApart f) → Says (suc i) rest place → Says i (f ∷ rest) place
  one_in_front i f rest (joins mark) apart (j, g, count, p, marked, ends) = (suc j, g, count, p, marked, ends)
  one_in_front i f rest alone apart said = each where
    each : (j : ℕ) (g : Filed) → At (f ∷ rest) j g → first_marked all g.mark ≡ i + j → ToldApart g
    each zero g p first = subst ToldApart p (apart (ap (λ (x : Filed). first_marked all x.mark) p ∙ first ∙ omega arith))
    each (suc j) g p first = said j g p (first ∙ omega arith)
  one_in_front i f rest (no_room position) apart said = tt

  -- A flow that is the first of a group is walked against, and any other is passed over.
  one_flow : (i : ℕ) (f : Filed) (rest : List Filed) (place : Place) (first : Bool) → eqb (first_marked all f.mark) i ≡ first
      → (ending : Ending) → walk_of new (flow_of laid f.shape) room ≡ ending → Says (suc i) rest place → Says i (f ∷ rest) (cond first (decided ending f.mark (suc i) place) place)
  one_flow i f rest place true is (equal count) ends said = (0, f, count, refl, refl, ends)
  one_flow i f rest place true is (different d) ends said = one_in_front i f rest place (λ first. (d, ends)) said
  one_flow i f rest place true is full ends said = tt
  one_flow i f rest place false is ending ends said =
      one_in_front i f rest place (λ first. absurd (both_ways (eqb (first_marked all f.mark) i) is (eq-eqb (first_marked all f.mark) i first))) said

  -- So the place among the flows from a position on says this.
  pub placed_says : (i : ℕ) (rest : List Filed) → Says i rest (place_from laid new room all i rest)
  placed_says i [] = λ j g p first. absurd p
  placed_says i (f ∷ rest) =
      one_flow i f rest (place_from laid new room all (suc i) rest) (eqb (first_marked all f.mark) i) refl
      (walk_of new (flow_of laid f.shape) room) refl (placed_says (suc i) rest)

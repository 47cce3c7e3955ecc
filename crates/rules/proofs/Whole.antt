-- A text read whole, on values alone. Serves the reading of a rule.
use Rattle.std.proofs.Common.{◌≡◌, ℕ, ◌+◌, ◌-◌, ◌*◌, ◌<◌, ◌≤◌, true, false, ltb, List, ◌++◌, length, drop, Ok, Err, Option, Result, sym, ap, ◌∙◌, ap₂, arith}
use lib.Seq.{sets, sets-eq}
use Rattle.std.proofs.lemmas.Bool.{cond-false, cond-true, le-ltb, lt-ltb}
use Rattle.signs.specs.Reader.{place_in, text_of}
use Rattle.signs.specs.declared.fault.SignFault.TheVariants.{TextTooLong}
use Rattle.signs.specs.declared.reader.SignReader.{SignReader}
use Rattle.sheet.specs.declared.named.Named.{Named}
use Rattle.grammar.specs.Reading.{Grown, Machine, bind_grown, choice_from, fresh, signs_left, term_of}
use Rattle.kat.specs.Terms.{Term, size}
use Rattle.grammar.specs.declared.fault.RuleFault.{RuleFault}
use Rattle.grammar.specs.declared.fault.RuleFault.TheVariants.{Sign, NoRoom}
use Rattle.rules.specs.Aheads.{ahead_in, ahead_of, ahead_to}
use Rattle.rules.specs.Builders.{Shape, shape_of, shown_grown}
use Rattle.rules.specs.Nodes.{blank, flat}
use Rattle.rules.specs.Readers.{Standing}
use Rattle.rules.specs.Rules.{actions_in, nodes_after, read_text, rule_of}
use Rattle.rules.specs.declared.node.Node.{Node}
use Rattle.rules.proofs.Actions.{choice_acts}
use Rattle.rules.proofs.Joins.{first_err}
use Rattle.rules.proofs.Shapes.{got_grown, length_flat}

-- a text that is too long
pub text_too_long : (means : List ℕ → Option Named) (text : List ℕ) → 4096 < length text → read_text means text ≡ Err (Sign TextTooLong)
text_too_long means text h = cond-true (ltb 4096 (length text)) _ _ (lt-ltb 4096 (length text) h)

-- a reader at the first byte has the whole text ahead
pub begun_ahead : (text : List ℕ) (signs : SignReader) → text_of signs ≡ text → place_in signs ≡ 0 → ahead_of (length text) signs ≡ ahead_in text
begun_ahead text signs t p =
    let all : length text - 0 ≡ length text = omega arith in
    ap₂ (λ text' place. ahead_to (length text) (length text' - place) text' place) t p ∙ ap (λ fuel. ahead_to (length text) fuel text 0) all

-- the choice that a text is
abbrev pub whole_of : (List ℕ → Option Named) → List ℕ → Result Grown RuleFault
whole_of means text = choice_from (signs_left (ahead_in text) * 4 + 4) means 32 (ahead_in text) fresh

-- a builder that begins at the first byte, with the fuel that the grammar gives, reads the choice that the text is
pub begun_choice : (means : List ℕ → Option Named) (text : List ℕ) (nodes : List Node) (signs : SignReader) (used : ℕ) (machine : Machine) {x : Result Shape RuleFault} → text_of signs ≡ text → place_in signs ≡ 0 → machine ≡ fresh → used ≡ 0
    → ((fuel : ℕ) → signs_left (ahead_of (length text) signs) * 4 + 3 < fuel → x ≡ shown_grown used nodes (choice_from fuel means 32 (ahead_of (length text) signs) machine))
    → x ≡ shown_grown 0 nodes (whole_of means text)
begun_choice means text nodes signs used machine t p m u reads =
    let ahead = begun_ahead text signs t p in
    rw (← ahead, ← m, ← u) (reads (signs_left (ahead_of (length text) signs) * 4 + 4) (omega arith))

module _ (means : List ℕ → Option Named) (text : List ℕ) (nodes : List Node) (few : length text ≤ 4096) where
  reads : read_text means text ≡ bind_grown (whole_of means text) term_of
  reads = cond-false (ltb 4096 (length text)) _ _ (le-ltb 4096 (length text) few)

  pub refused_text : (fault : RuleFault) → Err fault ≡ shown_grown 0 nodes (whole_of means text) → read_text means text ≡ Err fault
  refused_text fault e = reads ∙ first_err 0 nodes (whole_of means text) term_of fault e

  -- a text that is granted, as the code has it
  pub record Granted (s : Standing) : Type 0 where
    pub term : Term
    pub is : read_text means text ≡ Ok term
    pub used : s.used ≡ size term
    pub laid : s.nodes ≡ sets nodes 0 (flat 0 term)
    pub actions : s.machine.actions ≡ actions_in term

  pub granted_text : (s : Shape) → Ok s ≡ shown_grown 0 nodes (whole_of means text) → Granted s.then
  granted_text s e = go (got_grown 0 nodes (whole_of means text) s e)
    where
      go : (g : Grown) × (whole_of means text ≡ Ok g) × (s ≡ shape_of 0 nodes g.term g.next g.ahead g.machine) → Granted s.then
      go (g, is, same) =
          let acts = choice_acts means (signs_left (ahead_in text) * 4 + 4) 32 (ahead_in text) fresh g is in
          let count : g.machine.actions ≡ actions_in g.term = omega (arith, acts) in
          let wide : 0 + size g.term ≡ size g.term = omega arith in
          record {
            term = g.term;
            is = reads ∙ ap (λ d. bind_grown d term_of) is;
            used = ap (λ s. s.then.used) same ∙ wide;
            laid = ap (λ s. s.then.nodes) same;
            actions = ap (λ s. s.then.machine.actions) same ∙ count;
          }

  module _ (s : Standing) (g : Granted s) where
    pub no_room : length nodes < s.used → (Err NoRoom ≡ rule_of (length nodes) (read_text means text)) × (nodes_after nodes (read_text means text) ≡ blank (length nodes))
    no_room h =
        let short : ltb (length nodes) (size g.term) ≡ true = lt-ltb _ _ (rw (← g.used) h) in
        (rw (g.is, short), rw (g.is, short))

    pub room : s.used ≤ length nodes → (Ok (record { nodes = s.used; actions = s.machine.actions }) ≡ rule_of (length nodes) (read_text means text)) × (nodes_after nodes (read_text means text) ≡ s.nodes)
    room h =
        let enough : ltb (length nodes) (size g.term) ≡ false = le-ltb _ _ (rw (← g.used) h) in
        let all : 0 + length (flat 0 g.term) ≡ size g.term = omega (arith, length_flat 0 g.term) in
        let le : 0 + length (flat 0 g.term) ≤ length nodes = omega (arith, all, g.used) in
        let laid : flat 0 g.term ++ drop (size g.term) nodes ≡ s.nodes = ap (λ n. flat 0 g.term ++ drop n nodes) (sym all) ∙ sym (sets-eq (flat 0 g.term) nodes 0 le) ∙ sym g.laid in
        (rw (g.is, enough, ← g.used, ← g.actions), rw (g.is, enough) laid)

-- The flow of a text that was read has the counts of the book, and allows exactly the runs of the text.
use Rattle.std.proofs.Common.{◌≡◌, ℕ, Bool, true, false, cond, ltb, List, length, IfOk, Ok, Err, Result, ap, subst, arith}
use Rattle.grammar.specs.Derivations.{Rule}
use Rattle.grammar.specs.declared.fault.RuleFault.{RuleFault}
use Rattle.grammar.specs.declared.fault.RuleFault.TheVariants.{NoRoom}
use Rattle.kat.specs.Algebra.{Allowed}
use Rattle.kat.specs.Places.{place_flow}
use Rattle.kat.specs.Terms.{Term, size}
use Rattle.places.specs.Meaning.{places_on, rule_meaning}
use Rattle.places.specs.Reading.{AllowsTheRunsOf, flow_on, flow_within, meant, text_on}
use Rattle.places.specs.declared.flow.RuleFlow.{RuleFlow}
use Rattle.rules.specs.Granted.{GrantedExactlyForRules}
use Rattle.runs.specs.Flows.{FlowMeaning}
use Rattle.sheet.specs.Laid.{LaidOut}
use Rattle.signs.specs.Signs.{Mark, signs_of}
use Rattle.book.specs.Books.{Holdings, means_in}
use Rattle.book.specs.TextRuns.{FlowOfText}

-- A flow that was found room for is that of a term's places,
with_room : (laid : LaidOut) (short : Bool) (e : Term) (flow : FlowMeaning) → ◌≡◌ {A = Result FlowMeaning RuleFault} (Ok flow) (cond short (Err NoRoom) (Ok (places_on laid e))) → flow ≡ places_on laid e
with_room laid true e flow is = let z : ◌≡◌ {A = ℕ} 0 1 = cc in absurd (omega arith)
with_room laid false e flow is = cc

-- so that it has the situations and the named actions of the sheet:
record Counted (laid : LaidOut) (flow : FlowMeaning) : Type 0 where
  situations : flow.situations ≡ laid.meaning.situations
  actions : flow.actions ≡ length laid.names.actions

-- by the term that was read.
counted : (laid : LaidOut) (room : ℕ) (read : Result Term RuleFault) (flow : FlowMeaning) → Ok flow ≡ flow_within laid room read → Counted laid flow
unfolding place_flow
counted laid room (Ok e) flow is =
    let same = with_room laid (ltb room (size e)) e flow is in
    record { situations = ap (λ (f : FlowMeaning). f.situations) same; actions = ap (λ (f : FlowMeaning). f.actions) same }
counted laid room (Err fault) flow is = let z : ◌≡◌ {A = ℕ} 0 1 = cc in absurd (omega arith)

-- The signs of a text are one list.
one_list : (text : List ℕ) (signs others : List Mark) → signs_of text ≡ Ok signs → signs_of text ≡ Ok others → signs ≡ others
one_list text signs others is also = cc

-- The flow that was read is that of the text.
read_flow : (book : Holdings) (text : List ℕ) (flow : FlowMeaning) → Ok flow ≡ flow_on book.sheet 255 text → AllowsTheRunsOf book.sheet text flow
    → GrantedExactlyForRules (means_in book) text → FlowOfText book text flow
read_flow book text flow is rule granted =
    let counts = counted book.sheet 255 (text_on book.sheet text) flow is in
    record {
      situations = counts.situations;
      actions = counts.actions;
      no_more = λ run within so. (rule.signs, rule.term, rule.read, rule.derived, rule.no_more run within so);
      no_less = λ run within allowed.
          let signs = one_list text allowed.0 rule.signs allowed.2 rule.read in
          let derived : Rule (means_in book) rule.signs allowed.1 = subst (λ signs. Rule (means_in book) signs allowed.1) signs allowed.3 in
          let term = granted.one_term rule.signs allowed.1 rule.term derived rule.derived in
          rule.no_less run within (subst (λ e. Allowed book.sheet.meaning.holds e run) term allowed.4);
    }

-- So it is of an answer, where this is a flow.
pub answered_flow : (book : Holdings) (text : List ℕ) (r : Result RuleFlow RuleFault) → meant r ≡ flow_on book.sheet 255 text
    → IfOk r (λ flow. AllowsTheRunsOf book.sheet text (rule_meaning flow)) → GrantedExactlyForRules (means_in book) text → IfOk r (λ flow. FlowOfText book text (rule_meaning flow))
answered_flow book text (Ok flow) is rule granted = read_flow book text (rule_meaning flow) is rule granted
answered_flow book text (Err fault) is rule granted = tt

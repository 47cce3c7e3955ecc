-- What reading a text answers, and which runs its flow allows: from the term that was read and the flow of its places.
use Rattle.std.proofs.Common.{◌≡◌, ℕ, Bool, true, false, cond, ltb, List, length, Ok, Err, Result, sym, refl, ap, ◌∙◌, arith}
use Rattle.std.proofs.lemmas.Bool.{cond-false}
use Rattle.grammar.proofs.Numbering.{rule_is_numbered}
use Rattle.grammar.specs.declared.fault.RuleFault.{RuleFault}
use Rattle.grammar.specs.declared.fault.RuleFault.TheVariants.{NoRoom}
use Rattle.kat.proofs.PlaceRuns.{places_allow_the_runs}
use Rattle.kat.specs.Terms.{Term, size}
use Rattle.rules.specs.Granted.{GrantedExactlyForRules}
use Rattle.rules.specs.Rules.{actions_in, rule_of}
use Rattle.rules.specs.declared.rule.Rule as code
use Rattle.runs.specs.Flows.{FlowMeaning, allows}
use Rattle.sheet.specs.Laid.{LaidOut}
use Rattle.places.specs.Meaning.{IsThePlacesOf, places_on}
use Rattle.places.specs.Reading.{AllowsTheRunsOf, flow_on, flow_within, means_on, text_on}

-- A term that finds no room.
no_room : (laid : LaidOut) (short : Bool) (rule : code.Rule) (flow : FlowMeaning) (fault : RuleFault)
    → ◌≡◌ {A = Result code.Rule RuleFault} (Err fault) (cond short (Err NoRoom) (Ok rule)) → ◌≡◌ {A = Result FlowMeaning RuleFault} (Err fault) (cond short (Err NoRoom) (Ok flow))
no_room laid true rule flow fault is = let same : fault ≡ NoRoom = cc in ap Err same
no_room laid false rule flow fault is = let z : ◌≡◌ {A = ℕ} 0 1 = cc in absurd (omega arith)

-- A refused reading has no flow, for the same reason.
pub refused_flow : (laid : LaidOut) (room : ℕ) (read : Result Term RuleFault) (fault : RuleFault) → Err fault ≡ rule_of room read → Err fault ≡ flow_within laid room read
refused_flow laid room (Ok e) fault is = no_room laid (ltb room (size e)) (record { nodes = size e; actions = actions_in e }) (places_on laid e) fault is
refused_flow laid room (Err other) fault is = let same : fault ≡ other = cc in ap Err same

-- A granted reading has a term, and room for it.
pub record Found (room : ℕ) (read : Result Term RuleFault) : Type 0 where
  pub term : Term
  pub is : read ≡ Ok term
  pub fits : ltb room (size term) ≡ false

has_room : (short : Bool) (rule made_of : code.Rule) → ◌≡◌ {A = Result code.Rule RuleFault} (Ok rule) (cond short (Err NoRoom) (Ok made_of)) → short ≡ false
has_room true rule made_of is = let z : ◌≡◌ {A = ℕ} 0 1 = cc in absurd (omega arith)
has_room false rule made_of is = refl

pub found : (room : ℕ) (read : Result Term RuleFault) (rule : code.Rule) → Ok rule ≡ rule_of room read → Found room read
found room (Ok e) rule is = record { term = e; is = refl; fits = has_room (ltb room (size e)) rule (record { nodes = size e; actions = actions_in e }) is }
found room (Err fault) rule is = let z : ◌≡◌ {A = ℕ} 0 1 = cc in absurd (omega arith)

-- The flow of the places of the term that was read is the answer, and allows exactly the term's runs.
pub record Granted (laid : LaidOut) (room : ℕ) (text : List ℕ) (flow : FlowMeaning) : Type 0 where
  pub answer : Ok flow ≡ flow_on laid room text
  pub runs : AllowsTheRunsOf laid text flow

pub granted_flow : (laid : LaidOut) (room : ℕ) (text : List ℕ) (flow : FlowMeaning) → GrantedExactlyForRules (means_on laid) text
    → (one : Found room (text_on laid text)) → IsThePlacesOf laid one.term flow → Granted laid room text flow
granted_flow laid room text flow granted one places =
    let e = one.term in
    let rule = granted.granted_is_a_rule e one.is in
    let numbered = rule_is_numbered (means_on laid) rule.0 e rule.2 in
    let same : flow ≡ places_on laid e = places.numbered numbered in
    let exactly = places_allow_the_runs laid.meaning.situations (length laid.names.actions) laid.meaning.holds e numbered in
    record {
      answer = ap Ok same ∙ sym (ap (flow_within laid room) one.is ∙ cond-false (ltb room (size e)) (Err NoRoom) (Ok (places_on laid e)) one.fits);
      runs = record {
        signs = rule.0;
        term = e;
        read = rule.1;
        derived = rule.2;
        no_more = λ run within yes. (exactly run within).0 (sym (ap (λ f. allows f run) same) ∙ yes);
        no_less = λ run within allowed. ap (λ f. allows f run) same ∙ (exactly run within).1 allowed;
      };
    }

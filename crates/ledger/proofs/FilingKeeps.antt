-- A granted file or chart changes no other flow's group: one more flow at the end leaves what is found before it.
use Rattle.std.proofs.Common.{◌≡◌, ℕ, zero, suc, Bool, true, false, cond, eqb, List, [], ◌∷◌, ◌++◌, Some, None, Option, sym, refl, ap, ◌∙◌, arith}
use Rattle.std.proofs.lemmas.Bool.{cond-true, eq-eqb}
use Rattle.std.specs.Str.{bytes_eq}
use Rattle.ledger.specs.Calls.{Outcome, chart, compare, file, filed_in, group, group_answer, in_group, keep, keep_new, recheck, strike, strike_of}
use Rattle.ledger.specs.Joining.{place_of}
use Rattle.ledger.specs.Ledgers.{Filed, Ledger, Shape, first_marked, flow_of, named, of_chart, of_rule}
use Rattle.ledger.specs.Theorems.{FilingKeepsGroups}
use Rattle.ledger.proofs.FilingCases.{chart_cases, file_cases, place_cases}
use Rattle.ledger.proofs.Positions.{At}

-- The flow under a name stands in the book, and is found under it with one more flow at the end.
abbrev StaysNamed : List Filed → Filed → Option Filed → Option Filed → Type 0
StaysNamed filed f before after = before ≡ Some f → ((i : ℕ) × At filed i f) × (after ≡ Some f)

-- It is the first flow, or a later one.
named_behind : (h : Filed) (filed : List Filed) (f : Filed) (its : Bool) (before after : Option Filed) → StaysNamed filed f before after
    → StaysNamed (h ∷ filed) f (cond its (Some h) before) (cond its (Some h) after)
named_behind h filed f true before after later is = let same : h ≡ f = cc in ((0, same), is)
named_behind h filed f false before after later is = let found = later is in ((suc found.0.0, found.0.1), found.1)

-- So it is for every flow and name.
stays_named : (filed : List Filed) (new f : Filed) (name : List ℕ) → StaysNamed filed f (named filed name) (named (filed ++ (new ∷ [])) name)
stays_named [] new f name is = let never : ◌≡◌ {A = ℕ} 0 1 = cc in absurd (omega arith)
stays_named (h ∷ filed) new f name is =
    named_behind h filed f (bytes_eq h.name name) (named filed name) (named (filed ++ (new ∷ [])) name) (stays_named filed new f name) is

-- The first flow with the mark of a flow in the book is the first with one more flow at the end.
stays_first : (filed : List Filed) (new : Filed) (i : ℕ) (f : Filed) → At filed i f → first_marked (filed ++ (new ∷ [])) f.mark ≡ first_marked filed f.mark
stays_first [] new i f p = absurd p
stays_first (h ∷ filed) new zero f p =
    let its = eq-eqb h.mark f.mark (ap (λ (x : Filed). x.mark) p) in
    cond-true (eqb h.mark f.mark) 0 (suc (first_marked (filed ++ (new ∷ [])) f.mark)) its
    ∙ sym (cond-true (eqb h.mark f.mark) 0 (suc (first_marked filed f.mark)) its)
stays_first (h ∷ filed) new (suc i) f p = ap (λ later. cond (eqb h.mark f.mark) 0 (suc later)) (stays_first filed new i f p)

-- What group answers a number for, it answers the same for afterwards.
abbrev KeepsNumbers : Ledger → Outcome → Type 0
KeepsNumbers ledger outcome = (number : ℕ) → outcome.answer ≡ filed_in number → (name : List ℕ) (g : ℕ)
    → group_answer ledger (named ledger.filed name) ≡ in_group g → group_answer outcome.after (named outcome.after.filed name) ≡ in_group g

-- One more flow at the end keeps the numbers.
more_keeps : (ledger : Ledger) (new : Filed) → KeepsNumbers ledger (keep ledger new)
more_keeps ledger new number is name g = go (named ledger.filed name) refl where
  go : (found : Option Filed) → named ledger.filed name ≡ found → group_answer ledger found ≡ in_group g
      → group_answer (keep ledger new).after (named (ledger.filed ++ (new ∷ [])) name) ≡ in_group g
  go None found answered = let never : ◌≡◌ {A = ℕ} 0 1 = cc in absurd (omega arith)
  go (Some f) found answered =
      let stays = stays_named ledger.filed new f name found in
      ap (group_answer (keep ledger new).after) stays.1
      ∙ ap (λ first. in_group (suc first)) (stays_first ledger.filed new stays.0.0 f stays.0.1)
      ∙ answered

-- A flow that is kept or refused for want of room keeps the numbers.
new_keeps : (ledger : Ledger) (name : List ℕ) (shape : Shape) (room : ℕ) → KeepsNumbers ledger (keep_new ledger name shape room)
new_keeps ledger name shape room =
    place_cases (KeepsNumbers ledger) ledger (λ refusal number is other g same. same) name shape
    (place_of ledger.sheet (flow_of ledger.sheet shape) room ledger.filed)
    (λ mark is. more_keeps ledger _) (λ is. more_keeps ledger _)

-- A strike is not answered as a filing.
strike_keeps : (ledger : Ledger) (name : List ℕ) (found : Option Filed) → KeepsNumbers ledger (strike_of ledger name found)
strike_keeps ledger name None number is other g same = same
strike_keeps ledger name (Some f) number is other g same = let never : ◌≡◌ {A = ℕ} 0 1 = cc in absurd (omega arith)

-- So what is answered as a filing keeps the numbers.
pub filing_keeps_groups : FilingKeepsGroups
filing_keeps_groups ledger (file name text room) number is =
    file_cases (KeepsNumbers ledger) ledger (λ refusal n answered other g same. same) name text room (λ e read. new_keeps ledger name (of_rule e) room) number is
filing_keeps_groups ledger (chart name states lines room) number is =
    chart_cases (KeepsNumbers ledger) ledger (λ refusal n answered other g same. same) name states lines room
    (λ none. new_keeps ledger name (of_chart states lines) room) number is
filing_keeps_groups ledger (compare left right room buffer) number is = λ name g same. same
filing_keeps_groups ledger (recheck left right list) number is = λ name g same. same
filing_keeps_groups ledger (group other) number is = λ name g same. same
filing_keeps_groups ledger (strike other) number is = strike_keeps ledger other (named ledger.filed other) number is

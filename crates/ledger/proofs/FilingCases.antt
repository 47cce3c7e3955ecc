-- What a call that files can come to: a refusal, or a flow that is kept under a mark.
use Rattle.std.proofs.Common.{◌≡◌, ℕ, ◌-◌, ltb, leb, List, length, is_some, Some, None, Ok, Err, Option, Result, refl}
use Rattle.std.proofs.lemmas.Bool.{cond_both}
use Rattle.charts.specs.Faults as chartFaults
use Rattle.charts.specs.Limits.{chart_fault}
use Rattle.charts.specs.declared.fault.ChartFault.{ChartFault}
use Rattle.charts.specs.declared.line.Line.{Line}
use Rattle.grammar.specs.Faults as ruleFaults
use Rattle.grammar.specs.declared.fault.RuleFault.{RuleFault}
use Rattle.kat.specs.Terms.{Term, size}
use Rattle.places.specs.Reading.{text_on}
use Rattle.refusals.specs.declared.Refusal.{Refusal}
use Rattle.signs.specs.Names.{is_name}
use Rattle.ledger.specs.Calls.{Outcome, book_full, chart, checked_first, file, keep, keep_at, keep_chart, keep_new, keep_rule, name_taken, not_a_name, performed, refuse, table_full_at, table_too_large}
use Rattle.ledger.specs.Joining.{Place, alone, joins, no_room}
use Rattle.ledger.specs.Ledgers.{Ledger, Shape, free_mark, lines_used, named, nodes_used, of_chart, of_rule}

module _ (P : Outcome → Type 0) (ledger : Ledger) (refusing : (refusal : Refusal) → P (refuse ledger refusal)) where
  -- A first check refuses, or the call goes on.
  after_checks : (name : List ℕ) (room : ℕ) (onward : Outcome) → P onward → P (checked_first ledger name room onward)
  after_checks name room onward goes_on =
      cond_both (ltb 2048 room) _ _ P
      (λ large. refusing table_too_large)
      (λ fits.
      cond_both (is_name name) _ _ P
      (λ a-name.
      cond_both (is_some (named ledger.filed name)) _ _ P
      (λ taken. refusing name_taken)
      (λ free. cond_both (leb 64 (length ledger.filed)) _ _ P (λ full. refusing book_full) (λ left. goes_on)))
      (λ no_name. refusing not_a_name))

  -- A rule that was read is kept, if nodes are left.
  rule_kept : (name : List ℕ) (room : ℕ) (read : Result Term RuleFault) → ((e : Term) → read ≡ Ok e → P (keep_new ledger name (of_rule e) room))
      → P (keep_rule ledger name room read)
  rule_kept name room (Ok e) kept = cond_both (ltb (2048 - nodes_used ledger.filed) (size e)) _ _ P (λ full. refusing book_full) (λ left. kept e refl)
  rule_kept name room (Err fault) kept = refusing (ruleFaults.refusal_of fault)

  -- A chart without a fault is kept, if lines are left.
  chart_kept : (name : List ℕ) (room states : ℕ) (lines : List Line) (fault : Option ChartFault)
      → (fault ≡ None → P (keep_new ledger name (of_chart states lines) room)) → P (keep_chart ledger name room states lines fault)
  chart_kept name room states lines (Some fault) kept = refusing (chartFaults.refusal_of fault)
  chart_kept name room states lines None kept =
      cond_both (ltb (1024 - lines_used ledger.filed) (length lines)) _ _ P (λ full. refusing book_full) (λ left. kept refl)

  -- A text is refused, or is read and kept.
  pub file_cases : (name text : List ℕ) (room : ℕ) → ((e : Term) → text_on ledger.sheet text ≡ Ok e → P (keep_new ledger name (of_rule e) room))
      → P (performed ledger (file name text room))
  file_cases name text room kept = after_checks name room _ (rule_kept name room (text_on ledger.sheet text) kept)

  -- A chart is refused, or has no fault and is kept.
  pub chart_cases : (name : List ℕ) (states : ℕ) (lines : List Line) (room : ℕ)
      → (chart_fault ledger.sheet.meaning.situations (length ledger.sheet.names.actions) states lines ≡ None → P (keep_new ledger name (of_chart states lines) room))
      → P (performed ledger (chart name states lines room))
  chart_cases name states lines room kept = after_checks name room _ (chart_kept name room states lines _ kept)

  -- A flow to keep gets the mark of a group or the free one, or is refused.
  pub place_cases : (name : List ℕ) (shape : Shape) (place : Place)
      → ((mark : ℕ) → place ≡ joins mark → P (keep ledger (record { name = name; shape = shape; mark = mark })))
      → (place ≡ alone → P (keep ledger (record { name = name; shape = shape; mark = free_mark ledger.filed }))) → P (keep_at ledger name shape place)
  place_cases name shape (joins mark) joined free = joined mark refl
  place_cases name shape alone joined free = free refl
  place_cases name shape (no_room position) joined free = refusing (table_full_at position)

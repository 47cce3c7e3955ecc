-- The calls on a book: what each answers, and what the book holds afterwards.
use Rattle.std.specs.Prelude.{ℕ, ◌-◌, cond, List, [], ◌∷◌, ◌++◌, length, is_some, Some, None, Ok, Err, Option, Result, nat_le, nat_lt}
use Rattle.charts.specs.Faults as chartFaults
use Rattle.charts.specs.Limits.{chart_fault}
use Rattle.charts.specs.declared.fault.ChartFault.{ChartFault}
use Rattle.charts.specs.declared.line.Line.{Line}
use Rattle.grammar.specs.Faults as ruleFaults
use Rattle.grammar.specs.declared.fault.RuleFault.{RuleFault}
use Rattle.kat.specs.Terms.{Term, size}
use Rattle.places.specs.Reading.{text_on}
use Rattle.refusals.specs.declared.Layer.TheVariants.{Book, Names, Walk}
use Rattle.refusals.specs.declared.Refusal.{Refusal}
use Rattle.runs.specs.Pairs.{Pair}
use Rattle.signs.specs.Names.{is_name}
use Rattle.walk.specs.Checked.{checked}
use Rattle.walk.specs.Faults as walkFaults
use Rattle.walk.specs.Judged.{judged}
use Rattle.walk.specs.declared.fault.WalkFault.{WalkFault}
use Rattle.walk.specs.declared.verdict.Finding.{Finding}
use Rattle.walk.specs.declared.verdict.Verdict.{Verdict}
use Rattle.ledger.specs.Joining.{Place, alone, joins, no_room, place_of}
use Rattle.ledger.specs.Ledgers.{Filed, Ledger, Shape, flow_of, free_mark, group_number, lines_used, named, nodes_used, of_chart, of_rule, without}

-- A call, with what it is given: names, a text or a chart, a list, how many records its pair table has, and how many bytes its run buffer.
pub data Call : Type 0 where
  file : List ℕ → List ℕ → ℕ → Call
  chart : List ℕ → ℕ → List Line → ℕ → Call
  compare : List ℕ → List ℕ → ℕ → ℕ → Call
  recheck : List ℕ → List ℕ → List Pair → Call
  group : List ℕ → Call
  strike : List ℕ → Call

-- An answer: the group that a flow was filed in, what judge or check found, a group's number, a flow struck, or a refusal.
pub data Answer : Type 0 where
  filed_in : ℕ → Answer
  compared : Verdict → Answer
  rechecked : Finding → Answer
  in_group : ℕ → Answer
  struck : Answer
  refused : Refusal → Answer

-- What a call answers, and what the book holds afterwards.
pub record Outcome : Type 0 where
  pub answer : Answer
  pub after : Ledger

-- A refusal changes nothing.
abbrev pub refuse : Ledger → Refusal → Outcome
refuse ledger refusal = record { answer = refused refusal; after = ledger }

-- An answer that changes nothing.
abbrev pub answers : Ledger → Answer → Outcome
answers ledger answer = record { answer = answer; after = ledger }

abbrev pub table_too_large : Refusal
table_too_large = record { layer = Walk; number = 18; place = 0 }

abbrev pub not_a_name : Refusal
not_a_name = record { layer = Names; number = 2; place = 0 }

abbrev pub name_taken : Refusal
name_taken = record { layer = Book; number = 15; place = 0 }

abbrev pub no_such_flow : ℕ → Refusal
no_such_flow place = record { layer = Book; number = 16; place = place }

abbrev pub book_full : Refusal
book_full = record { layer = Book; number = 17; place = 0 }

abbrev pub table_full_at : ℕ → Refusal
table_full_at position = record { layer = Walk; number = 19; place = position }

-- The book with one more flow, at the end, and its group's number as the answer.
abbrev pub keep : Ledger → Filed → Outcome
keep ledger f = record {
  answer = filed_in (group_number (ledger.filed ++ (f ∷ [])) f);
  after = record { sheet = ledger.sheet; filed = ledger.filed ++ (f ∷ []) };
}

-- A new flow joins its group, or begins one, or is refused for want of room in the pair table.
abbrev pub keep_at : Ledger → List ℕ → Shape → Place → Outcome
keep_at ledger name shape (joins mark) = keep ledger (record { name = name; shape = shape; mark = mark })
keep_at ledger name shape alone = keep ledger (record { name = name; shape = shape; mark = free_mark ledger.filed })
keep_at ledger name shape (no_room position) = refuse ledger (table_full_at position)

abbrev pub keep_new : Ledger → List ℕ → Shape → ℕ → Outcome
keep_new ledger name shape room = keep_at ledger name shape (place_of ledger.sheet (flow_of ledger.sheet shape) room ledger.filed)

-- A rule that was read is kept if there are nodes left for it.
abbrev pub keep_rule : Ledger → List ℕ → ℕ → Result Term RuleFault → Outcome
keep_rule ledger name room (Ok e) = cond (nat_lt (2048 - nodes_used ledger.filed) (size e)) (refuse ledger book_full) (keep_new ledger name (of_rule e) room)
keep_rule ledger name room (Err fault) = refuse ledger (ruleFaults.refusal_of fault)

-- A chart is kept if it has no fault and there are lines left for it.
abbrev pub keep_chart : Ledger → List ℕ → ℕ → ℕ → List Line → Option ChartFault → Outcome
keep_chart ledger name room states lines (Some fault) = refuse ledger (chartFaults.refusal_of fault)
keep_chart ledger name room states lines None =
    cond (nat_lt (1024 - lines_used ledger.filed) (length lines)) (refuse ledger book_full) (keep_new ledger name (of_chart states lines) room)

-- The checks that come before a text or a chart is looked at: 18, 2, 15, and 17 for flows.
abbrev pub checked_first : Ledger → List ℕ → ℕ → Outcome → Outcome
checked_first ledger name room onward =
    cond (nat_lt 2048 room) (refuse ledger table_too_large)
    (cond (is_name name)
    (cond (is_some (named ledger.filed name)) (refuse ledger name_taken) (cond (nat_le 64 (length ledger.filed)) (refuse ledger book_full) onward))
    (refuse ledger not_a_name))

-- The two flows under two names; the first name that is none is refused at its place.
abbrev pub with_both : Ledger → Option Filed → Option Filed → (Filed → Filed → Answer) → Answer
with_both ledger None right found = refused (no_such_flow 1)
with_both ledger (Some left) None found = refused (no_such_flow 2)
with_both ledger (Some left) (Some right) found = found left right

-- What judge and check answer.
abbrev pub verdict_of : Result Verdict WalkFault → Answer
verdict_of (Ok verdict) = compared verdict
verdict_of (Err fault) = refused (walkFaults.refusal_of fault)

abbrev pub finding_of : Result Finding WalkFault → Answer
finding_of (Ok finding) = rechecked finding
finding_of (Err fault) = refused (walkFaults.refusal_of fault)

-- The answer about a flow's group, and a strike.
abbrev pub group_answer : Ledger → Option Filed → Answer
group_answer ledger None = refused (no_such_flow 1)
group_answer ledger (Some f) = in_group (group_number ledger.filed f)

abbrev pub strike_of : Ledger → List ℕ → Option Filed → Outcome
strike_of ledger name None = refuse ledger (no_such_flow 1)
strike_of ledger name (Some f) = record { answer = struck; after = record { sheet = ledger.sheet; filed = without ledger.filed name } }

-- What a call does.
abbrev pub performed : Ledger → Call → Outcome
performed ledger (file name text room) = checked_first ledger name room (keep_rule ledger name room (text_on ledger.sheet text))
performed ledger (chart name states lines room) =
    checked_first ledger name room
    (keep_chart ledger name room states lines (chart_fault ledger.sheet.meaning.situations (length ledger.sheet.names.actions) states lines))
performed ledger (compare left right room buffer) =
    answers ledger
    (cond (nat_lt 2048 room) (refused table_too_large)
    (with_both ledger (named ledger.filed left) (named ledger.filed right)
    (λ f g. verdict_of (judged (flow_of ledger.sheet f.shape) (flow_of ledger.sheet g.shape) room buffer))))
performed ledger (recheck left right list) =
    answers ledger
    (cond (nat_lt 2048 (length list)) (refused table_too_large)
    (with_both ledger (named ledger.filed left) (named ledger.filed right)
    (λ f g. finding_of (checked (flow_of ledger.sheet f.shape) (flow_of ledger.sheet g.shape) list))))
performed ledger (group name) = answers ledger (group_answer ledger (named ledger.filed name))
performed ledger (strike name) = strike_of ledger name (named ledger.filed name)

-- The worked cases: texts on two sheets, and a chart, with the runs that they allow and with what judge and check answer on them.
use Rattle.std.specs.Prelude.{◌≡◌, ℕ, ◌⊎◌, [], ◌∷◌, Some, Ok, Err, codes}
use Rattle.charts.specs.Limits.{chart_of}
use Rattle.kat.specs.Terms.{act, chain, choice, not, star, test}
use Rattle.places.specs.Reading.{means_on}
use Rattle.runs.specs.Runs.{Run, Within, one_action}
use Rattle.sheet.specs.declared.named.Named.TheVariants.{Test, Action}
use Rattle.walk.specs.Checked.{checked}
use Rattle.walk.specs.Faults.{number_of}
use Rattle.walk.specs.Judged.{buffer_after, judged, table_after}
use Rattle.walk.specs.Records.{zero_table}
use Rattle.walk.specs.declared.fault.WalkFault.TheVariants.{TableFull}
use Rattle.walk.specs.declared.verdict.Finding.TheVariants.{StepFails}
use Rattle.walk.specs.declared.verdict.Side.TheVariants.{Left, Right}
use Rattle.walk.specs.declared.verdict.Verdict.TheVariants.{Equal, Different}
use Rattle.worked.specs.Charts.{send_chart, send_lines}
use Rattle.worked.specs.Sheets.{office, plain}
use Rattle.worked.specs.Tables.{pair, pairs_in}
use Rattle.worked.specs.Texts.{TextAllows, flow_of, term_of}

-- What each case is, field by field: the names first, then what the texts read to, then the answers.
pub record Worked : Type 0 where
  -- In the office `locked` names test 0.
  pub locked_is_test_0 : means_on office (codes "locked") ≡ Some (Test 0)
  -- And `send` names action 0.
  pub send_is_action_0 : means_on office (codes "send") ≡ Some (Action 0)
  -- And `keep` names action 1.
  pub keep_is_action_1 : means_on office (codes "keep") ≡ Some (Action 1)
  -- On the plain sheet `a` names action 0.
  pub a_is_action_0 : means_on plain (codes "a") ≡ Some (Action 0)
  -- And `b` names action 1.
  pub b_is_action_1 : means_on plain (codes "b") ≡ Some (Action 1)
  -- `locked;send` is granted, and reads to the test and then the action.
  pub locked_send_reads : term_of office "locked;send" ≡ Ok (chain (test 0) (act 0 1))
  -- `send` is granted, and reads to the action.
  pub send_reads : term_of office "send" ≡ Ok (act 0 1)
  -- `locked;keep|!locked;send` is granted, and reads to a choice of two chains.
  pub keep_or_send_reads : term_of office "locked;keep|!locked;send" ≡ Ok (choice (chain (test 0) (act 1 1)) (chain (not (test 0)) (act 0 2)))
  -- So is `!locked;send|locked;keep`, and reads to the two the other way round, with the places in the order of its own text.
  pub send_or_keep_reads : term_of office "!locked;send|locked;keep" ≡ Ok (choice (chain (not (test 0)) (act 0 1)) (chain (test 0) (act 1 2)))
  -- `(a;b)*;a` is granted, and reads to rounds of both actions and then the first.
  pub rounds_then_a_reads : term_of plain "(a;b)*;a" ≡ Ok (chain (star (chain (act 0 1) (act 1 2))) (act 0 3))
  -- `a;(b;a)*` is granted, and reads to the first action and then rounds of both.
  pub a_then_rounds_reads : term_of plain "a;(b;a)*" ≡ Ok (chain (act 0 1) (star (chain (act 1 2) (act 0 3))))
  -- `a*` is granted, and reads to the action any number of times.
  pub any_number_reads : term_of plain "a*" ≡ Ok (star (act 0 1))
  -- `a;a*` is granted, and reads to the action once and then any number of times.
  pub one_or_more_reads : term_of plain "a;a*" ≡ Ok (chain (act 0 1) (star (act 0 2)))
  -- Of all runs, however long, over two situations and two actions, `locked;send` allows the two that send once, from the locked situation into
  -- either: 1 send 0 and 1 send 1.
  pub sends_once_when_locked : (run : Run) → Within 2 2 run
      → (TextAllows office "locked;send" run → (run ≡ one_action 1 0 0) ⊎ (run ≡ one_action 1 0 1))
      × ((run ≡ one_action 1 0 0) ⊎ (run ≡ one_action 1 0 1) → TextAllows office "locked;send" run)
  -- No situation is locked and not locked: `locked;!locked` allows no run.
  pub never_both : (run : Run) → TextAllows office "locked;!locked" run → ⊥
  -- To keep when locked or to send when not is the same written either way round: judge answers equal, with four pairs.
  pub either_way_round : judged (flow_of office "locked;keep|!locked;send") (flow_of office "!locked;send|locked;keep") 2048 0 ≡ Ok (Equal 4)
  -- These are the four, in the order in which they stand in a table of four records.
  pub either_way_round_pairs : pairs_in (table_after (flow_of office "locked;keep|!locked;send") (flow_of office "!locked;send|locked;keep") (zero_table 4))
      ≡ pair 1 1 ∷ pair 4 2 ∷ pair 0 0 ∷ pair 2 4 ∷ []
  -- To send when locked is less than to send: judge answers different, by a run of one action that the right side alone allows.
  pub less_than_send : judged (flow_of office "locked;send") (flow_of office "send") 2048 3 ≡ Ok (Different 1 Right)
  -- It is the run 0 send 0, which a buffer of three bytes then holds, whatever it held before.
  pub less_than_send_run : (x y z : ℕ) → buffer_after (flow_of office "locked;send") (flow_of office "send") 2048 (x ∷ y ∷ z ∷ []) ≡ 0 ∷ 0 ∷ 0 ∷ []
  -- The chart that sends once is granted.
  pub chart_is_made : chart_of 2 2 2 send_lines ≡ Ok send_chart
  -- It is the same as `send`: judge answers equal, with three pairs.
  pub chart_is_send : judged send_chart (flow_of office "send") 2048 0 ≡ Ok (Equal 3)
  -- These are the three. Where the chart has no line for an action it is at 255, which is no state, and `send` at the code of no place, 0.
  pub chart_is_send_pairs : pairs_in (table_after send_chart (flow_of office "send") (zero_table 3)) ≡ pair 0 1 ∷ pair 1 2 ∷ pair 255 0 ∷ []
  -- Rounds of `a;b` and then `a` are `a` and then rounds of `b;a`: judge answers equal, with five pairs.
  pub rounds_slide : judged (flow_of plain "(a;b)*;a") (flow_of plain "a;(b;a)*") 2048 0 ≡ Ok (Equal 5)
  -- These are the five.
  pub rounds_slide_pairs : pairs_in (table_after (flow_of plain "(a;b)*;a") (flow_of plain "a;(b;a)*") (zero_table 5))
      ≡ pair 1 1 ∷ pair 10 2 ∷ pair 0 0 ∷ pair 4 4 ∷ pair 10 8 ∷ []
  -- With a table of four records they are refused, since the table is full.
  pub four_are_too_few : judged (flow_of plain "(a;b)*;a") (flow_of plain "a;(b;a)*") 4 0 ≡ Err TableFull
  -- That is refusal 19.
  pub full_is_19 : number_of TableFull ≡ 19
  -- The start pair alone does not show them equal: check finds that a step from pair 0 leads out of the list.
  pub start_is_too_little : checked (flow_of plain "(a;b)*;a") (flow_of plain "a;(b;a)*") (pair 1 1 ∷ []) ≡ Ok (StepFails 0)
  -- Any number of `a` is more than one or more: judge answers different, by a run of no action that the left side alone allows.
  pub none_too : judged (flow_of plain "a*") (flow_of plain "a;a*") 2048 1 ≡ Ok (Different 0 Left)
  -- It is situation 0 alone, which a buffer of one byte then holds, whatever it held before.
  pub none_too_run : (x : ℕ) → buffer_after (flow_of plain "a*") (flow_of plain "a;a*") 2048 (x ∷ []) ≡ 0 ∷ []

-- Each turn puts a test that holds or passes one that does not; behind the last, `none` is put if no test held.
use Rattle.std.proofs.Common.{ℕ, ◌<◌, [], length, get_or, sym, ap, ◌∙◌, subst}
use Rattle.sheet.specs.Laid.{sheet_of}
use Rattle.showing.proofs.Told.{test_passed, test_put}
use Rattle.showing.proofs.told_runs.Telling.put_in_words.Goals as goal
use Rattle.showing.proofs.told_runs.Telling.put_in_words.Goals.{then-holds+in_ok-put_test, else-holds}

pub loop-t-preserved : goal.loop-t-preserved
loop-t-preserved c =
    let laid = sheet_of c.args.self.now.sheet.now in
    let holds = λ (t : ℕ). laid.meaning.holds t c.args.s in
    let all = c.tests-t-end.ensures.counted ∙ ap (λ n. length n.tests) c.names-names.ensures in
    let within = subst (λ n. c.loop-t.t < n) all c.loop-t-test.true in
    let asked = sym (c.holds.ensures.as_meant ∙ ap (λ m. m.holds c.loop-t.t c.args.s) c.vocabulary-vocabulary.ensures) in
    elim c.if-holds.branch [
      | then-holds+in_ok-put_test w ↦
          let named = w.test_name.ensures ∙ ap (λ n. get_or n.tests c.loop-t.t []) c.names-names.ensures in
          simp (w.out-is, w.first-is)
          (test_put _ _ holds laid.names.tests c.loop-t.t c.loop-t.first _ _ _ within (asked ∙ w.if-holds.true) named c.loop-t.invariant w.in_ok-put_test.ensures)
      | else-holds w ↦
          simp (w.out-is, w.first-is)
          (test_passed _ _ holds laid.names.tests c.loop-t.t c.loop-t.first _ within (asked ∙ w.if-holds.false) c.loop-t.invariant)
    ]

-- The worked cases. All but the runs of `locked;send` and of `locked;!locked`, which are proved, are computed.
use Rattle.std.proofs.Common.{◌≡◌, ℕ, zero, suc, ◌<◌, true, ◌⊎◌, sym, refl, ap, ◌∙◌, subst, inl, inr, arith}
use Rattle.std.proofs.lemmas.Bool.{false≢true}
use Rattle.kat.proofs.Testing.{test_laws}
use Rattle.kat.specs.Places.{place_flow}
use Rattle.kat.specs.Terms.{test}
use Rattle.masks.specs.Bits.{bits_below}
use Rattle.runs.specs.Runs.{Run, Within, first_of, joined, one_action, single}
use Rattle.worked.specs.Sheets.{office}
use Rattle.worked.specs.Texts.{TextAllows}
use Rattle.worked.specs.Worked.{Worked}

-- Of two situations the office is locked in 1, and a run of one action ends in 0 or 1.
sent_so : (s t : ℕ) → s < 2 → t < 2 → office.meaning.holds 0 s ≡ true → (one_action s 0 t ≡ one_action 1 0 0) ⊎ (one_action s 0 t ≡ one_action 1 0 1)
sent_so zero t a b h = absurd (false≢true h)
sent_so (suc zero) zero a b h = inl refl
sent_so (suc zero) (suc zero) a b h = inr refl
sent_so (suc zero) (suc (suc t)) a b h = absurd (omega arith)
sent_so (suc (suc s)) t a b h = absurd (omega arith)

-- A run of `locked;send` sends once, from a locked situation.
sends : (run : Run) → Within 2 2 run → TextAllows office "locked;send" run → (run ≡ one_action 1 0 0) ⊎ (run ≡ one_action 1 0 1)
sends run within (x, y, (s, is-s, h), (r, t, is_y), meet, whole) =
    let there : s ≡ r = sym (ap (λ (z : Run). z.last) is-s) ∙ meet ∙ ap (λ (z : Run). first_of z) is_y in
    let same : run ≡ one_action r 0 t = whole ∙ ap (λ (z : Run). joined z y) is-s ∙ is_y in
    let ranges = subst (λ z. Within 2 2 z) same within in
    let up : office.meaning.holds 0 r ≡ true = ap (office.meaning.holds 0) (sym there) ∙ h in
    subst (λ z. (z ≡ one_action 1 0 0) ⊎ (z ≡ one_action 1 0 1)) (sym same) (sent_so r t ranges.0.0 ranges.1 up)

-- The two runs are allowed, since the office is locked in situation 1.
sent : (run : Run) → (run ≡ one_action 1 0 0) ⊎ (run ≡ one_action 1 0 1) → TextAllows office "locked;send" run
sent run (inl e) = (single 1, one_action 1 0 0, (1, refl, refl), (1, 0, refl), refl, e)
sent run (inr e) = (single 1, one_action 1 0 1, (1, refl, refl), (1, 1, refl), refl, e)

-- The cases, field by field.
pub worked : Worked
unfolding place_flow bits_below
worked = record {
  locked_is_test_0 = refl;
  send_is_action_0 = refl;
  keep_is_action_1 = refl;
  a_is_action_0 = refl;
  b_is_action_1 = refl;
  locked_send_reads = refl;
  send_reads = refl;
  keep_or_send_reads = refl;
  send_or_keep_reads = refl;
  rounds_then_a_reads = refl;
  a_then_rounds_reads = refl;
  any_number_reads = refl;
  one_or_more_reads = refl;
  sends_once_when_locked = λ run within. (sends run within, sent run);
  never_both = λ run allowed. ((test_laws office.meaning.holds).nothing_shared (test 0) refl).0 run allowed;
  either_way_round = refl;
  either_way_round_pairs = refl;
  less_than_send = refl;
  less_than_send_run = λ x y z. refl;
  chart_is_made = refl;
  chart_is_send = refl;
  chart_is_send_pairs = refl;
  rounds_slide = refl;
  rounds_slide_pairs = refl;
  four_are_too_few = refl;
  full_is_19 = refl;
  start_is_too_little = refl;
  none_too = refl;
  none_too_run = λ x. refl;
}

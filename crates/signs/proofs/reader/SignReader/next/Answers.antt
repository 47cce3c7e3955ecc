-- The three ways that `next` ends: no sign is left, a fault, or a sign.
use Rattle.std.proofs.Common.{◌+◌, length, get_or, drop, Err, sym, refl, ap, ◌∙◌, subst}
use Rattle.std.proofs.lemmas.Result.{err_from_is_err_and}
use Rattle.signs.specs.Signs.{sign_at, found}
use Rattle.signs.specs.Reader.{MovesOn, followed_by, marked, mark_of, place_after, signs_ahead}
use Rattle.signs.proofs.Steps.{next_none, next_there}
use Rattle.signs.proofs.Reading.{tells_sign, tells_fault, at_the_end, at_a_fault, at_a_sign}
use Rattle.signs.proofs.reader.SignReader.next.Goals as goal

pub returns-then-at-self : goal.returns-then-at-self
returns-then-at-self c =
    let self = c.args.self.now in
    let none = next_none self.text.now self.at c.after_blanks-at.result c.after_blanks-at.ensures c.if-at-self.true in
    record {
      keeps_the_text = refl;
      gives_the_next_sign = sym none;
      stands_behind_the_sign = sym (ap (place_after self.at) none);
      moves_on = tt;
      takes_the_first_sign_ahead = sym (at_the_end self.text.now self.at none);
    }

pub returns-in_err-sign : goal.returns-in_err-sign
returns-in_err-sign c =
    let self = c.args.self.now in
    let text = self.text.now in
    let at = c.after_blanks-at.result in
    let out = err_from_is_err_and c.from_residual.result c.from_residual.ensures.1 in
    let is = tells_fault c.sign_at.result (sign_at at (get_or text at 0) (drop (at + 1) text)) _ c.in_err-sign.was c.sign_at.ensures in
    let fault = next_there text self.at at c.after_blanks-at.ensures c.if-at-self.false ∙ ap found is ∙ ap Err (sym out.2) in
    record {
      keeps_the_text = refl;
      gives_the_next_sign = ap marked out.1 ∙ sym fault;
      stands_behind_the_sign = sym (ap (place_after self.at) fault);
      moves_on = subst (MovesOn (length text) self.at self.at) (sym out.1) tt;
      takes_the_first_sign_ahead = ap (λ r. followed_by (marked r) (signs_ahead self)) out.1 ∙ sym (at_a_fault text self.at out.0 fault);
    }

pub returns : goal.returns
returns c =
    let self = c.args.self.now in
    let text = self.text.now in
    let at = c.after_blanks-at.result in
    let sign = c.in_ok-sign.sign in
    let is = tells_sign c.sign_at.result (sign_at at (get_or text at 0) (drop (at + 1) text)) (sign, c.in_ok-sign.behind) c.in_ok-sign.was c.sign_at.ensures in
    let next = next_there text self.at at c.after_blanks-at.ensures c.if-at-self.false ∙ ap found is.0 in
    let ahead = at_a_sign text self.at (mark_of sign) next in
    record {
      keeps_the_text = refl;
      gives_the_next_sign = sym next;
      stands_behind_the_sign = is.1 ∙ sym (ap (place_after self.at) next);
      moves_on = (rw is.1 ahead.0, rw is.1 ahead.1);
      takes_the_first_sign_ahead = rw is.1 ahead.2;
    }

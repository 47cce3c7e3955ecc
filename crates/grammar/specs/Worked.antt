-- A few short texts with what each reads to, where `locked` names test 0, `send` action 0 and `keep` action 1.
use Rattle.std.specs.Prelude.{◌≡◌, ℕ, cond, List, length, Some, None, Ok, Err, codes, Option, Result}
use Rattle.std.specs.Str.{bytes_eq}
use Rattle.sheet.specs.declared.named.Named.{Named}
use Rattle.sheet.specs.declared.named.Named.TheVariants.{Test, Action}
use Rattle.signs.specs.Signs.{Mark, signs_of}
use Rattle.signs.specs.declared.fault.SignFault.{SignFault}
use Rattle.kat.specs.Terms.{Term, act, chain, choice, not, test}
use Rattle.grammar.specs.Reading.{read_ahead}
use Rattle.grammar.specs.Theorems.{ahead_of}
use Rattle.grammar.specs.declared.fault.RuleFault.{RuleFault}
use Rattle.grammar.specs.declared.fault.RuleFault.TheVariants.{Sign, TooDeep, Unfit, NotATest}

-- What the three names name.
abbrev pub three_names : List ℕ → Option Named
three_names name =
    cond (bytes_eq name (codes "locked")) (Some (Test 0))
    (cond (bytes_eq name (codes "send")) (Some (Action 0))
    (cond (bytes_eq name (codes "keep")) (Some (Action 1)) None))

abbrev pub read_signs : ℕ → Result (List Mark) SignFault → Result Term RuleFault
read_signs place (Ok signs) = read_ahead three_names (ahead_of signs place)
read_signs place (Err fault) = Err (Sign fault)

-- A text is read by its signs, up to its length.
abbrev pub read_text : List ℕ → Result Term RuleFault
read_text text = read_signs (length text) (signs_of text)

-- `!` that many times in front of a term.
abbrev pub nots : ℕ → Term → Term
nots ℕ.zero e = e
nots (ℕ.suc n) e = not (nots n e)

pub record Worked : Type 0 where
  -- an action is no test, and the innermost `!` over it is refused
  pub negated_action : read_text (codes "!send") ≡ Err (NotATest 0)
  pub twice_negated : read_text (codes "!!send") ≡ Err (NotATest 1)
  -- behind `;` a unit is wanted, and the end is refused
  pub nothing_behind : read_text (codes "send;") ≡ Err (Unfit 5)
  -- 32 levels can be open, and a 33rd cannot
  pub thirty_two : read_text (codes "!!!!!!!!!!!!!!!!!!!!!!!!!!!!!!!!locked") ≡ Ok (nots 32 (test 0))
  pub thirty_three : read_text (codes "!!!!!!!!!!!!!!!!!!!!!!!!!!!!!!!!!locked") ≡ Err (TooDeep 32)
  -- `;` binds closer than `|`, and actions are numbered in the order of the text
  pub lock : read_text (codes "locked;keep|!locked;send") ≡ Ok (choice (chain (test 0) (act 1 1)) (chain (not (test 0)) (act 0 2)))

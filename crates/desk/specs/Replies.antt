-- Answers, with a faulty sign as its bytes.
use Rattle.std.specs.Prelude.{ℕ, List, Some, None, Ok, Err, Option, Result}
use Rattle.std.specs.Option.{option_map}
use Rattle.refusals.specs.declared.Refusal.{Refusal}
use Rattle.desk.specs.declared.reply.Reply.{Reply}
use Rattle.desk.specs.declared.reply.Reply.TheVariants.{Vocabulary, Number, Opened, Read}
use Rattle.desk.specs.declared.reply.Refused.{Refused}

-- The situations and tests of a vocabulary; a number given; the tests and actions named; the nodes and actions of a rule; a
-- refusal, and a refusal with the sign that it is for.
pub data Said : Type 0 where
  made : ℕ → ℕ → Said
  number : ℕ → Said
  opened_with : ℕ → ℕ → Said
  has_read : ℕ → ℕ → Said
  refused : Refusal → Said
  refused_on : Refusal → List ℕ → Said

-- An answer of the code to a call that is granted.
abbrev pub granted_by : Reply → Said
granted_by (Vocabulary situations tests) = made situations tests
granted_by (Number k) = number k
granted_by (Opened tests actions) = opened_with tests actions
granted_by (Read nodes actions) = has_read nodes actions

-- A refusal, for a sign or for none.
abbrev pub refused_for : Refusal → Option (List ℕ) → Said
refused_for refusal None = refused refusal
refused_for refusal (Some faulty) = refused_on refusal faulty

-- An answer of the code to any call.
abbrev pub said_by : Result Reply Refused → Said
said_by (Ok reply) = granted_by reply
said_by (Err why) = refused_for why.refusal (option_map (λ sign. sign.now) why.sign)

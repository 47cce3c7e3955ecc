-- The flow that tables of masks tell.
use Rattle.std.specs.Prelude.{◌≡◌, ℕ, zero, suc, ◌^◌, ◌<◌, ◌≤◌, Bool, false, cond, ◌&&◌, ◌||◌, ◌⊎◌, nat_lt}
use Rattle.std.proofs.Common.{inl, inr, lit<}
use Rattle.std.proofs.lemmas.Bool.{cond_both, cond-false, and_left, and_right, le-ltb}
use Rattle.masks.specs.Bits.{bit, bits_below}
use Rattle.masks.proofs.Bits.{bits_fit}
use Rattle.kat.specs.Terms.{Term}
use Rattle.runs.specs.Flows.{FlowMeaning, Lawful}
use Rattle.tables.specs.Masks.{action_mask, end_mask, follow_mask}

-- Some number below n is as asked.
unfoldable pub any_below : (ℕ → Bool) → ℕ → Bool
any_below asked zero = false
any_below asked (suc n) = any_below asked n || asked n

-- Some place is marked in a code and has its bit in a mask.
abbrev pub shares : ℕ → ℕ → Bool
shares code mask = any_below (λ p. bit p code && bit p mask) 64

-- Some place is marked in a code, and the mask that a row has for it has bit q.
abbrev pub reaches : (ℕ → ℕ) → ℕ → ℕ → Bool
reaches row code q = any_below (λ p. bit p code && bit q (row p)) 64

-- The next code: the places of the action among those that the row leads to from the marked ones.
abbrev pub next_by : (ℕ → ℕ) → ℕ → ℕ → ℕ
next_by row own code = bits_below (λ q. bit q own && reaches row code q) 64

-- The flow over n situations and k actions in which `last` has, for a situation, the places behind which a run may end, `next` has, for a
-- situation and a place, those that may come next, and `own` has those of an action.
abbrev pub table_flow : ℕ → ℕ → (ℕ → ℕ) → (ℕ → ℕ → ℕ) → (ℕ → ℕ) → FlowMeaning
table_flow n k last next own = record {
  situations = n;
  actions = k;
  start = 1;
  accept = λ code. bits_below (λ s. shares code (last s)) n;
  next = λ code s a. cond (nat_lt s n && nat_lt a k) (next_by (next s) (own a) code) code;
}

next_outside : (n k : ℕ) (last : ℕ → ℕ) (next : ℕ → ℕ → ℕ) (own : ℕ → ℕ) (code s a : ℕ) → (n ≤ s) ⊎ (k ≤ a) → (table_flow n k last next own).next code s a ≡ code
next_outside n k last next own code s a (inl h) = cond-false _ _ _ (and_left _ _ (le-ltb _ _ h))
next_outside n k last next own code s a (inr h) = cond-false _ _ _ (and_right _ _ (le-ltb _ _ h))

-- Whatever the tables hold, the flow is lawful where its counts are within the limits.
pub table_lawful : (n k : ℕ) (last : ℕ → ℕ) (next : ℕ → ℕ → ℕ) (own : ℕ → ℕ) → 1 ≤ n → n ≤ 64 → k ≤ 16 → Lawful (table_flow n k last next own)
table_lawful n k last next own some most few = record {
  some = some;
  most = most;
  few = few;
  start_fits = lit< tt;
  next_fits = λ code s a h. cond_both (nat_lt s n && nat_lt a k) (next_by (next s) (own a) code) code (λ x. x < 2 ^ 64) (λ _. bits_fit (λ q. bit q (own a) && reaches (next s) code q) 64) (λ _. h);
  accepts_situations = λ code. bits_fit (λ s. shares code (last s)) n;
  outside = next_outside n k last next own;
}

-- The tables are those of a term.
pub record TablesOf (n k : ℕ) (holds : ℕ → ℕ → Bool) (e : Term) (last : ℕ → ℕ) (next : ℕ → ℕ → ℕ) (own : ℕ → ℕ) : Type 0 where
  pub lasts : (s : ℕ) → s < n → last s ≡ end_mask holds s e
  pub nexts : (s p : ℕ) → s < n → p < 64 → next s p ≡ follow_mask holds s p e
  pub owns : (a : ℕ) → a < k → own a ≡ action_mask a e

-- Two flows that have the same counts and start, and go the same way from every code of 64 bits.
pub record SameOnCodes (f g : FlowMeaning) : Type 0 where
  pub situations : f.situations ≡ g.situations
  pub actions : f.actions ≡ g.actions
  pub start : f.start ≡ g.start
  pub accept : (code : ℕ) → code < 2 ^ 64 → f.accept code ≡ g.accept code
  pub next : (code s a : ℕ) → code < 2 ^ 64 → f.next code s a ≡ g.next code s a

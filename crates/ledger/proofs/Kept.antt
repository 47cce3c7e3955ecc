-- The flows of a book beside what each was filed from: what holds of them, and that it holds without one of them and with one more.
use Rattle.std.proofs.Common.{◌≡◌, ℕ, zero, suc, Bool, true, false, cond, ◌⊎◌, List, [], ◌∷◌, ◌++◌, map, sym, refl, ap, ◌∙◌, subst, inl, inr}
use Rattle.std.specs.Str.{bytes_eq}
use Rattle.sheet.specs.Laid.{LaidOut}
use Rattle.ledger.specs.Histories.{Standing, gone}
use Rattle.ledger.specs.Ledgers.{Filed, flow_of, without}
use Rattle.ledger.specs.Sources.{SameSourceRuns, Source}
use Rattle.ledger.proofs.Made.{Made}
use Rattle.ledger.proofs.Positions.{At, at_either}
use Rattle.ledger.proofs.SourceRuns.{same_as_itself, same_back}

-- A filed flow, and what it was filed from.
pub record Kept : Type 0 where
  pub flow : Filed
  pub source : Source

-- The flows of a book,
abbrev pub flows_of : List Kept → List Filed
flows_of kept = map (λ k. k.flow) kept

-- and the same flows as the calls and their answers tell them.
abbrev pub standing_of : Kept → Standing
standing_of k = record { name = k.flow.name; source = k.source }

abbrev pub standings_of : List Kept → List Standing
standings_of kept = map standing_of kept

-- Two flows have one mark exactly when their sources allow the same runs.
abbrev pub MarkedByRuns : LaidOut → Kept → Kept → Type 0
MarkedByRuns laid k l = (k.flow.mark ≡ l.flow.mark → SameSourceRuns laid k.source l.source) × (SameSourceRuns laid k.source l.source → k.flow.mark ≡ l.flow.mark)

-- Each flow is made from its source, and of any two flows the marks tell whether they allow the same runs.
pub record Sound (laid : LaidOut) (kept : List Kept) : Type 0 where
  pub made : (i : ℕ) (k : Kept) → At kept i k → Made laid (flow_of laid k.flow.shape) k.source
  pub marks : (i j : ℕ) (k l : Kept) → At kept i k → At kept j l → MarkedByRuns laid k l

-- It holds of no flows.
pub none_sound : (laid : LaidOut) → Sound laid []
none_sound laid = record { made = λ i k p. absurd p; marks = λ i j k l p q. absurd p }

-- The kept flows without the one under a name.
abbrev pub less : List Kept → List ℕ → List Kept
less [] name = []
less (k ∷ kept) name = cond (bytes_eq k.flow.name name) kept (k ∷ less kept name)

-- Things made of a list without its first element, or of one that begins with it.
made_of_less : {A : Type 0} (make : Kept → A) (its : Bool) (k : Kept) (kept fewer : List Kept) (rest : List A) → rest ≡ map make fewer
    → cond its (map make kept) (make k ∷ rest) ≡ map make (cond its kept (k ∷ fewer))
made_of_less make true k kept fewer rest is = refl
made_of_less make false k kept fewer rest is = ap (λ xs. make k ∷ xs) is

-- A strike takes the same flow from the book,
pub flows_of_less : (kept : List Kept) (name : List ℕ) → without (flows_of kept) name ≡ flows_of (less kept name)
flows_of_less [] name = refl
flows_of_less (k ∷ kept) name =
    made_of_less (λ x. x.flow) (bytes_eq k.flow.name name) k kept (less kept name) (without (flows_of kept) name) (flows_of_less kept name)

-- and from those that stand by the calls.
pub standings_of_less : (kept : List Kept) (name : List ℕ) → gone (standings_of kept) name ≡ standings_of (less kept name)
standings_of_less [] name = refl
standings_of_less (k ∷ kept) name =
    made_of_less standing_of (bytes_eq k.flow.name name) k kept (less kept name) (gone (standings_of kept) name) (standings_of_less kept name)

-- What stands in a list with or without its first element.
at_less_if : (its : Bool) (h : Kept) (kept fewer : List Kept) (i : ℕ) (k : Kept) → ((m : ℕ) → At fewer m k → (j : ℕ) × At kept j k)
    → At (cond its kept (h ∷ fewer)) i k → (j : ℕ) × At (h ∷ kept) j k
at_less_if true h kept fewer i k later p = (suc i, p)
at_less_if false h kept fewer zero k later p = (0, p)
at_less_if false h kept fewer (suc i) k later p = let found = later i p in (suc found.0, found.1)

-- What is kept after a strike was kept before.
at_less : (kept : List Kept) (name : List ℕ) (i : ℕ) (k : Kept) → At (less kept name) i k → (j : ℕ) × At kept j k
at_less [] name i k p = absurd p
at_less (h ∷ kept) name i k p = at_less_if (bytes_eq h.flow.name name) h kept (less kept name) i k (λ m q. at_less kept name m k q) p

-- So it holds without one of the flows.
pub less_sound : (laid : LaidOut) (kept : List Kept) (name : List ℕ) → Sound laid kept → Sound laid (less kept name)
less_sound laid kept name sound = record {
  made = λ i k p. let a = at_less kept name i k p in sound.made a.0 k a.1;
  marks = λ i j k l p q.
      let a = at_less kept name i k p in
      let b = at_less kept name j l q in
      sound.marks a.0 b.0 k l a.1 b.1;
}

-- Marks tell the runs in either order.
marked_back : (laid : LaidOut) (k l : Kept) → MarkedByRuns laid k l → MarkedByRuns laid l k
marked_back laid k l by =
    (λ one. same_back laid k.source l.source (by.0 (sym one)), λ same. sym (by.1 (same_back laid l.source k.source same)))

-- It holds with one more flow at the end that is made from its source, if marks tell its runs from those of each before.
pub more_sound : (laid : LaidOut) (kept : List Kept) (new : Kept) → Sound laid kept → Made laid (flow_of laid new.flow.shape) new.source
    → ((i : ℕ) (k : Kept) → At kept i k → MarkedByRuns laid k new) → Sound laid (kept ++ (new ∷ []))
more_sound laid kept new sound made by = record {
  made = λ i k p. one i k (at_either kept new i k p);
  marks = λ i j k l p q. two i j k l (at_either kept new i k p) (at_either kept new j l q);
} where
  one : (i : ℕ) (k : Kept) → At kept i k ⊎ (new ≡ k) → Made laid (flow_of laid k.flow.shape) k.source
  one i k (inl p) = sound.made i k p
  one i k (inr is) = subst (λ (x : Kept). Made laid (flow_of laid x.flow.shape) x.source) is made

  two : (i j : ℕ) (k l : Kept) → At kept i k ⊎ (new ≡ k) → At kept j l ⊎ (new ≡ l) → MarkedByRuns laid k l
  two i j k l (inl p) (inl q) = sound.marks i j k l p q
  two i j k l (inl p) (inr is) = subst (λ (x : Kept). MarkedByRuns laid k x) is (by i k p)
  two i j k l (inr is) (inl q) = subst (λ (x : Kept). MarkedByRuns laid x l) is (marked_back laid l new (by j l q))
  two i j k l (inr this) (inr that) =
      subst (λ (x : Kept). MarkedByRuns laid k x) (sym this ∙ that) (λ one-mark. same_as_itself laid k.source, λ same. refl)

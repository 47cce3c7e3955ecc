-- With room for all meeting pairs, flows with the same runs are found equal, and so some list convinces exactly then.
use Rattle.std.proofs.Common.{◌≡◌, ℕ, ◌^◌, ◌<◌, refl, subst, arith}
use Rattle.runs.specs.Flows.{FlowMeaning, Lawful}
use Rattle.runs.specs.Theorems.{AListConvinces, SameRunsAreFound}
use Rattle.runs.specs.Tracing.{shown_run}
use Rattle.runs.specs.Walks.{Ending, different, equal, full, list_after, walk}
use Rattle.runs.proofs.Closed.{passing_shows_same_runs}
use Rattle.runs.proofs.Different.{shown_shortest}
use Rattle.runs.proofs.Equal.{equal_means_same_runs}
use Rattle.runs.proofs.Full.{full_means_more_pairs}
use Rattle.runs.proofs.ListedPairs.{pairs_length, pairs_of}

-- What a lawful flow of n situations accepts has n bits.
accepts_fit : (n : ℕ) (flow : FlowMeaning) → Lawful flow → flow.situations ≡ n → (code : ℕ) → flow.accept code < 2 ^ n
accepts_fit n flow lawful same code = subst (λ m. flow.accept code < 2 ^ m) same (lawful.accepts_situations code)

-- A different ending would show a run on which they part, a full table more meeting pairs than there are.
pub same_runs_are_found : SameRunsAreFound
same_runs_are_found n k room f g same few lawful-f lawful-g n-f n-g = go (walk n k f g room) refl
  where
    go : (ending : Ending) → walk n k f g room ≡ ending → (count : ℕ) × (walk n k f g room ≡ equal count)
    go (equal count) e = (count, e)
    go (different i) e =
        let shows = shown_shortest n k room i f g (accepts_fit n f lawful-f n-f) (accepts_fit n g lawful-g n-g) e in
        absurd (shows.parts (same (shown_run n k f g i) shows.within))
    go full e =
        let more = full_means_more_pairs n k room f g e in
        absurd (omega (arith, few more.0 more.1 more.2, more.3))

-- The walk's own list convinces.
pub a_list_convinces : AListConvinces
a_list_convinces n k room f g few lawful-f lawful-g n-f n-g = (
  λ same.
      let found = same_runs_are_found n k room f g same few lawful-f lawful-g n-f n-g in
      let says = equal_means_same_runs n k room found.0 f g found.1 in
      let list = list_after n k f g found.0 in
      (pairs_of list, omega (arith, pairs_length list, says.counted, says.in_the_room), says.list_passes),
  λ list. passing_shows_same_runs n k f g list.0 list.2,
)

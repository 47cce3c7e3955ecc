-- After any calls a book keeps the flows that stand by the calls and their answers, each made from its source and marked by its runs.
use Rattle.std.proofs.Common.{◌≡◌, ℕ, List, [], ◌∷◌, ◌++◌, Some, None, Option, sym, refl, ap, ◌∙◌, subst}
use mathlib.Core.List.{map-append}
use Rattle.refusals.specs.declared.Refusal.{Refusal}
use Rattle.sheet.specs.Laid.{LaidOut}
use Rattle.ledger.specs.Calls.{Answer, Call, Outcome, chart, compare, compared, file, filed_in, group, in_group, keep, keep_new}
use Rattle.ledger.specs.Calls.{performed, recheck, rechecked, refuse, refused, strike, strike_of, struck}
use Rattle.ledger.specs.Histories.{Standing, after_event, book_after, events_of, filed_by, standing_after, struck_by}
use Rattle.ledger.specs.Joining.{place_of}
use Rattle.ledger.specs.Ledgers.{Filed, Ledger, Shape, flow_of, free_mark, named, of_chart, of_rule}
use Rattle.ledger.specs.Sources.{LawfulSheet, Source, a_chart, a_text}
use Rattle.ledger.proofs.FilingCases.{chart_cases, file_cases, place_cases}
use Rattle.ledger.proofs.Kept.{Kept, Sound, flows_of_less, flows_of, less, less_sound, more_sound, standing_of, standings_of_less, standings_of}
use Rattle.ledger.proofs.Made.{Made, made_from_chart, made_from_text}
use Rattle.ledger.proofs.NewFlow.{free_by_runs, joined_by_runs, new_with}
use Rattle.ledger.proofs.Placed.{Says, placed_says}

-- The book of a sheet that holds the kept flows.
abbrev pub book_of : LaidOut → List Kept → Ledger
book_of laid kept = record { sheet = laid; filed = flows_of kept }

-- A book, and the flows that stand by the calls: both are the same kept flows, of which it holds that they are sound.
pub record Keeps (laid : LaidOut) (ledger : Ledger) (standing : List Standing) : Type 0 where
  pub kept : List Kept
  pub in_the_book : ledger ≡ book_of laid kept
  pub by_the_calls : standing ≡ standings_of kept
  pub sound : Sound laid kept

-- A call that files and strikes nothing leaves what stands, whatever it is answered.
idle : (standing : List Standing) (call : Call) → filed_by standing call ≡ standing → struck_by standing call ≡ standing
    → (answer : Answer) → after_event standing call answer ≡ standing
idle standing call files strikes (filed_in number) = files
idle standing call files strikes (compared verdict) = refl
idle standing call files strikes (rechecked finding) = refl
idle standing call files strikes (in_group number) = refl
idle standing call files strikes struck = strikes
idle standing call files strikes (refused refusal) = refl

module _ (laid : LaidOut) (lawful : LawfulSheet laid) (kept : List Kept) (sound : Sound laid kept) where
  -- What is to be shown of what a call comes to.
  abbrev Still : Call → Outcome → Type 0
  Still call outcome = Keeps laid outcome.after (after_event (standings_of kept) call outcome.answer)

  -- A refusal changes nothing.
  still_refused : (call : Call) (refusal : Refusal) → Still call (refuse (book_of laid kept) refusal)
  still_refused call refusal = record { kept = kept; in_the_book = refl; by_the_calls = refl; sound = sound }

  -- An answer to a call that files and strikes nothing changes nothing.
  still_answered : (call : Call) → filed_by (standings_of kept) call ≡ standings_of kept → struck_by (standings_of kept) call ≡ standings_of kept
      → (answer : Answer) → Keeps laid (book_of laid kept) (after_event (standings_of kept) call answer)
  still_answered call files strikes answer =
      record { kept = kept; in_the_book = refl; by_the_calls = idle (standings_of kept) call files strikes answer; sound = sound }

  -- One more flow is kept at the end, and stands at the end.
  still_kept : (call : Call) (new : Kept) → filed_by (standings_of kept) call ≡ standings_of kept ++ (standing_of new ∷ [])
      → Sound laid (kept ++ (new ∷ [])) → Still call (keep (book_of laid kept) new.flow)
  still_kept call new stands more = record {
    kept = kept ++ (new ∷ []);
    in_the_book = ap (λ (filed : List Filed). record { sheet = laid; filed = filed }) (sym (map-append (λ (k : Kept). k.flow) kept (new ∷ [])));
    by_the_calls = stands ∙ sym (map-append standing_of kept (new ∷ []));
    sound = more;
  }

  -- A new flow that is made from its source is kept under the mark of its runs.
  still_new : (call : Call) (name : List ℕ) (shape : Shape) (source : Source) (room : ℕ)
      → filed_by (standings_of kept) call ≡ standings_of kept ++ (record { name = name; source = source } ∷ []) → Made laid (flow_of laid shape) source
      → Still call (keep_new (book_of laid kept) name shape room)
  still_new call name shape source room stands made =
      let all = flows_of kept in
      let new = flow_of laid shape in
      let says = placed_says laid new room all 0 all in
      let with-mark = new_with laid kept sound name shape source room made in
      place_cases (Still call) (book_of laid kept) (still_refused call) name shape (place_of laid new room all)
      (λ mark is.
      still_kept call (with-mark mark) stands
      (more_sound laid kept (with-mark mark) sound made
      (joined_by_runs laid kept sound name shape source room made mark (subst (Says laid new room all 0 all) is says))))
      (λ is.
      still_kept call (with-mark (free_mark all)) stands
      (more_sound laid kept (with-mark (free_mark all)) sound made
      (free_by_runs laid kept sound name shape source room made (subst (Says laid new room all 0 all) is says))))

  -- A strike takes the flow of the name, if there is one.
  still_struck : (name : List ℕ) (found : Option Filed) → Still (strike name) (strike_of (book_of laid kept) name found)
  still_struck name None = record { kept = kept; in_the_book = refl; by_the_calls = refl; sound = sound }
  still_struck name (Some f) = record {
    kept = less kept name;
    in_the_book = ap (λ (filed : List Filed). record { sheet = laid; filed = filed }) (flows_of_less kept name);
    by_the_calls = standings_of_less kept name;
    sound = less_sound laid kept name sound;
  }

  -- So each call leaves such a book.
  still_performed : (call : Call) → Still call (performed (book_of laid kept) call)
  still_performed (file name text room) =
      file_cases (Still (file name text room)) (book_of laid kept) (still_refused (file name text room)) name text room
      (λ e is. still_new (file name text room) name (of_rule e) (a_text text) room refl (made_from_text laid lawful text e is))
  still_performed (chart name states lines room) =
      chart_cases (Still (chart name states lines room)) (book_of laid kept) (still_refused (chart name states lines room)) name states lines room
      (λ none. still_new (chart name states lines room) name (of_chart states lines) (a_chart states lines) room refl (made_from_chart laid lawful states lines none))
  still_performed (compare left right room buffer) = still_answered (compare left right room buffer) refl refl _
  still_performed (recheck left right list) = still_answered (recheck left right list) refl refl _
  still_performed (group name) = still_answered (group name) refl refl _
  still_performed (strike name) = still_struck name (named (flows_of kept) name)

-- One call.
keeps_on : (laid : LaidOut) → LawfulSheet laid → (ledger : Ledger) (standing : List Standing) → Keeps laid ledger standing → (call : Call)
    → Keeps laid (performed ledger call).after (after_event standing call (performed ledger call).answer)
keeps_on laid lawful ledger standing keeps call =
    subst (λ (at : Ledger × List Standing). Keeps laid (performed at.0 call).after (after_event at.1 call (performed at.0 call).answer))
    (λ i. (sym keeps.in_the_book i, sym keeps.by_the_calls i))
    (still_performed laid lawful keeps.kept keeps.sound call)

-- Any calls.
pub keeps_after : (laid : LaidOut) → LawfulSheet laid → (calls : List Call) (ledger : Ledger) (standing : List Standing) → Keeps laid ledger standing
    → Keeps laid (book_after ledger calls) (standing_after standing (events_of ledger calls))
keeps_after laid lawful [] ledger standing keeps = keeps
keeps_after laid lawful (call ∷ calls) ledger standing keeps =
    keeps_after laid lawful calls (performed ledger call).after (after_event standing call (performed ledger call).answer) (keeps_on laid lawful ledger standing keeps call)

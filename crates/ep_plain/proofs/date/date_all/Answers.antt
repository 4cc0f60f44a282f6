use Rattle.std.proofs.Common.{◌≡◌, All, List, [], ◌∷◌, Some, ap, inl, inr, refl, subst, sym}
use Rattle.std.proofs.lemmas.List.Elements.{All-from_recursion}
use Rattle.std.specs.List.{AllByRecursion}
use Rattle.ep_base.specs.declared.ids.EntryId.{EntryId}
use Rattle.ep_calls.proofs.EntryLemmas.{key_of}
use Rattle.ep_calls.specs.Parts.{Parts}
use Rattle.ep_calls.specs.Readiness.{entry_shows, readiness}
use Rattle.ep_dates.specs.Dates.{Dates}
use Rattle.ep_interest.specs.Registrations.{IsSound, Registrations, entry_under}
use Rattle.ep_interest.specs.declared.entry.Entry.{Entry}
use Rattle.ep_law.specs.Laws.{Member}
use Rattle.ep_plain.specs.Since.{AreDated}
use Rattle.ep_plain.proofs.date.date_all.Goals as goal

all_by : (P : Entry → Type 0) (xs : List Entry) → ((x : Entry) → Member x xs → P x) → AllByRecursion P xs
all_by P [] h = tt
all_by P (x ∷ xs) h = (h x (inl refl), all_by P xs (λ y m. h y (inr m)))

-- what holds of each registration by its key, holds of all
all_under : (P : Entry → Type 0) (r : Registrations) → IsSound r → ((id : EntryId) (x : Entry) → entry_under r id ≡ Some x → P x) → All P r.entries
all_under P r sound h = All-from_recursion P r.entries (all_by P r.entries (λ x m. let id = key_of r sound x m in h id.0 x id.1))

pub returns-clause-dates : goal.returns-clause-dates
returns-clause-dates c =
    let p = c.args.parts.now in
    let sound : IsSound p.interest = subst (λ (q : Parts). IsSound q.interest) c.parts.view_is c.known.ensures in
    let kept : c.forget.new.self.since ≡ c.date.new.dates.since = ap (λ (d : Dates). d.since) c.forget.ensures in
    let P = AreDated (entry_shows (readiness p.tables p.clock p.interest) p.tables p.clock) c.args.step p.interest c.args.dating.now.dates.since in
    subst P (sym kept)
    (record {
      each = all_under _ p.interest sound c.date.ensures.dates;
      later = c.date.ensures.later;
    })

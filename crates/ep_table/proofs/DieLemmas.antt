-- The death of a description, as the machine has it.
use Rattle.std.proofs.Common.{Bool, List, None, Option, Some, [], ap, get_or, map, slice_set, subst, sym, unwrap_or, ℕ, ◌++◌, ◌==◌, ◌∙◌, ◌∷◌, ◌≡◌, ◌||◌, if◌then◌else◌}
use Rattle.std.specs.List.{list_any}
use Rattle.ep_facts.proofs.ListFacts.{map_set}
use Rattle.ep_base.specs.declared.ids.DescId.{DescId}
use Rattle.ep_base.specs.declared.object.Raised.{Raised}
use Rattle.ep_machine.specs.Deaths.{die}
use Rattle.ep_machine.specs.Files.{Place, object_at, object_of, place_of}
use Rattle.ep_machine.specs.Lists.{numbered}
use Rattle.ep_machine.specs.Objects.{Object, close_end, is_waiting, plain}
use Rattle.ep_table.specs.ByNumber.{contents_by}
use Rattle.ep_table.specs.Closing.{Dies, closed_slot, other_slot, raised_slot}
use Rattle.ep_table.specs.Stored.{AllFewer, AllKeyed, IsStore, count_in, counts, holds_in, key_number, names_in, number_in, objects, place_in, places, queued, things}
use Rattle.ep_table.specs.Value.{Queue, Things, files_in, number_at, unwrapped}
use Rattle.ep_table.specs.declared.store.Store.TheInside.{Inside}
use Rattle.ep_table.specs.declared.words.Dead.{Dead}
use Rattle.ep_table.specs.declared.words.Description.{Description}
use Rattle.ep_table.specs.declared.words.Dying.{Dying}
use Rattle.ep_table.specs.declared.words.Shared.{Shared}
use Rattle.ep_table.proofs.CloseLemmas.{left_was, objects_closed, places_left}
use Rattle.ep_table.proofs.ByNumberLemmas.{contents_next}
use Rattle.ep_table.proofs.OtherLemmas.{other_left}
use Rattle.ep_table.proofs.QueueLemmas.{keyed_less, keyed_rest, no_holds, no_names, others_differ, queue_less, queued_push, set_same}
use Rattle.ep_table.proofs.StoreLemmas.{backs, key_at, number_is, object_is, place_is, thing_is}

subst3 : {ds ds1 : List (Option Place)} {names names1 holds holds1 dying : List ℕ} → ds ≡ ds1 → names ≡ names1 → holds ≡ holds1 → Queue ds names holds dying → Queue ds1 names1 holds1 dying
subst3 {ds} {ds1} {names} {names1} {holds} {holds1} {dying} e f g q =
    subst (λ (xs : List (Option Place)). Queue xs names1 holds1 dying) e (subst (λ (xs : List ℕ). Queue ds xs holds1 dying) f (subst (λ (xs : List ℕ). Queue ds names xs dying) g q))

module _ {A : Type 0} (k : Inside A) (v : Things) (inv : IsStore k) (same : things k ≡ v) (key : DescId) (d : Description) (is : get_or k.descriptions.slots key.0 None ≡ Some d) where
  abbrev s : Shared
  s = (backs k v inv same key d is).it

  abbrev after : Things
  after = record {
    descriptions = slice_set v.descriptions d.number None;
    objects = slice_set v.objects d.object_number (if list_any (λ y. y.1.object == d.object_number) (numbered 0 (slice_set v.descriptions d.number None)) || is_waiting (close_end s.object d.end).0 then Some (close_end s.object d.end).0 else None);
    keys = slice_set v.keys key.0 None;
    names = v.names;
    holds = v.holds;
    dying = v.dying;
    named = v.named;
    losses = v.losses;
  }

  object_under : get_or v.objects d.object_number None ≡ Some s.object
  object_under = ap (λ (p : Option Place). object_at (files_in v) p) (sym (place_is k v inv same key d is)) ∙ object_is k v inv same key d is

  died : files_in after ≡ (die (files_in v, []) (d.number, place_in d)).0
  died =
      let content : Object = unwrap_or (get_or v.objects d.object_number None) plain in
      let e : content ≡ s.object = ap unwrapped object_under in
      let without = record (files_in v) { descriptions = slice_set v.descriptions d.number None } in
      let others : Bool = list_any (λ y. y.1.object == d.object_number) (numbered 0 (slice_set v.descriptions d.number None)) in
      (λ i. record without { objects = slice_set v.objects d.object_number (if others || is_waiting (close_end (sym e i) d.end).0 then Some (close_end (sym e i) d.end).0 else None) })

  module _ (rest : List Dying) (last : Dying) (split : k.dying.items ≡ rest ++ last ∷ []) (named : last.number ≡ d.number) where
    first_is : v.dying ≡ d.number ∷ queued rest
    first_is = ap (λ (w : Things). w.dying) (sym same) ∙ (ap queued split ∙ (queued_push rest last ∙ ap (λ (m : ℕ). m ∷ queued rest) named))

    queue : Queue v.descriptions v.names v.holds (d.number ∷ queued rest)
    queue = subst (λ (xs : List ℕ). Queue v.descriptions v.names v.holds xs) first_is (subst (λ (w : Things). Queue w.descriptions w.names w.holds w.dying) same inv.queue)

    none_keeps : (t : Description) → None ≡ Some t → number_in t ≡ number_in d
    none_keeps t h = absurd cc

    left_counts : (count : Description → ℕ) → counts count (slice_set k.descriptions.slots key.0 None) k.described ≡ slice_set (counts count k.descriptions.slots k.described) d.number 0
    left_counts count = ap (map count_in) (contents_next number_in count k.descriptions.slots key.0 d is k.described inv.descriptions None none_keeps) ∙ map_set count_in (contents_by number_in count k.descriptions.slots k.described) d.number None

    names_same : counts names_in (slice_set k.descriptions.slots key.0 None) k.described ≡ v.names
    names_same = left_counts names_in ∙ (ap (λ (w : Things). slice_set w.names d.number 0) same ∙ set_same v.names d.number 0 0 (no_names v.descriptions v.names v.holds (queued rest) d.number queue))

    holds_same : counts holds_in (slice_set k.descriptions.slots key.0 None) k.described ≡ v.holds
    holds_same = left_counts holds_in ∙ (ap (λ (w : Things). slice_set w.holds d.number 0) same ∙ set_same v.holds d.number 0 0 (no_holds v.descriptions v.names v.holds (queued rest) d.number queue))

    places_same : places (slice_set k.descriptions.slots key.0 None) k.described ≡ slice_set v.descriptions d.number None
    places_same = places_left k.descriptions.slots k.objects.slots k.described k.made inv.descriptions inv.objects inv.backed inv.owned key d is ∙ ap (λ (w : Things). slice_set w.descriptions d.number None) same

    pub queue_left : Queue (places (slice_set k.descriptions.slots key.0 None) k.described) (counts names_in (slice_set k.descriptions.slots key.0 None) k.described) (counts holds_in (slice_set k.descriptions.slots key.0 None) k.described) (queued rest)
    queue_left = subst3 (sym places_same) (sym names_same) (sym holds_same) (queue_less v.descriptions v.names v.holds (queued rest) d.number queue)

    pub keyed_left : AllKeyed (map key_number (slice_set k.descriptions.slots key.0 None)) rest
    keyed_left =
        let all = keyed_rest (map key_number k.descriptions.slots) rest last (subst (λ (xs : List Dying). AllKeyed (map key_number k.descriptions.slots) xs) split inv.keyed) in
        let n : number_at (map key_number k.descriptions.slots) key ≡ Some d.number = key_at k.descriptions.slots key.0 ∙ ap key_number is in
        subst (λ (keys : List (Option ℕ)). AllKeyed keys rest) (sym (map_set key_number k.descriptions.slots key.0 None)) (keyed_less (map key_number k.descriptions.slots) key d.number n rest (others_differ v.descriptions v.names v.holds (queued rest) d.number queue) all)

    pub fewer_left : AllFewer (slice_set k.descriptions.slots key.0 None) k.named
    fewer_left i x h = inv.fewer i x (left_was k.descriptions.slots k.objects.slots k.described k.made inv.descriptions inv.objects inv.backed inv.owned key d is i x h)

    pub dies : (ds : List (Option Description)) (os : List (Option Shared)) (entry : Dead) (raised : Raised) → ds ≡ slice_set k.descriptions.slots key.0 None → os ≡ slice_set k.objects.slots d.object (closed_slot (get_or k.objects.slots d.object None) d.end)
        → raised ≡ raised_slot (get_or k.objects.slots d.object None) d.end
        → entry.desc ≡ key → entry.end ≡ d.end → entry.raised ≡ raised → entry.other ≡ other_slot (get_or k.objects.slots d.object None) d.end
        → Dies v (record { descriptions = places ds k.described; objects = objects os k.made; keys = map key_number ds; names = counts names_in ds k.described; holds = counts holds_in ds k.described; dying = queued rest; named = k.named; losses = k.losses.items }) entry
    dies ds os entry raised f g r ek ee er eo =
        let b = backs k v inv same key d is in
        let n = thing_is k v inv same key d is in
        let at : get_or k.objects.slots d.object None ≡ Some s = b.is in
        let new : Things = record { descriptions = places ds k.described; objects = objects os k.made; keys = map key_number ds; names = counts names_in ds k.described; holds = counts holds_in ds k.described; dying = queued rest; named = k.named; losses = k.losses.items } in
        let g1 : os ≡ slice_set k.objects.slots d.object (closed_slot (Some s) d.end) = g ∙ ap (λ (o : Option Shared). slice_set k.objects.slots d.object (closed_slot o d.end)) at in
        let p : places ds k.described ≡ slice_set v.descriptions d.number None = ap (λ (xs : List (Option Description)). places xs k.described) f ∙ places_same in
        let q : objects os k.made ≡ after.objects =
        ap (λ (xs : List (Option Shared)). objects xs k.made) g1
        ∙ (objects_closed k.descriptions.slots k.objects.slots k.described k.made inv.descriptions inv.objects inv.backed inv.owned key d is
        ∙ ap (λ (w : Things). slice_set w.objects d.object_number (if list_any (λ y. y.1.object == d.object_number) (numbered 0 (slice_set w.descriptions d.number None)) || is_waiting (close_end s.object d.end).0 then Some (close_end s.object d.end).0 else None)) same) in
        let keys : map key_number ds ≡ slice_set v.keys key.0 None = ap (map key_number) f ∙ (map_set key_number k.descriptions.slots key.0 None ∙ ap (λ (w : Things). slice_set w.keys key.0 None) same) in
        record {
          number = d.number;
          key_is = ap (λ (i : DescId). number_at v.keys i) ek ∙ number_is k v inv same key d is;
          dying = first_is;
          place = place_in d;
          place_is = ap (λ (m : ℕ). place_of (files_in v) m) (sym n) ∙ place_is k v inv same key d is;
          files = (λ i. record { tables = []; descriptions = p i; objects = q i }) ∙ died;
          keys = keys ∙ ap (λ (i : DescId). slice_set v.keys i.0 None) (sym ek);
          names = ap (λ (xs : List (Option Description)). counts names_in xs k.described) f ∙ names_same;
          holds = ap (λ (xs : List (Option Description)). counts holds_in xs k.described) f ∙ holds_same;
          named = ap (λ (w : Things). w.named) same;
          losses = ap (λ (w : Things). w.losses) same;
          end_is = ee;
          raised_is = er ∙ (r ∙ (ap (λ (o : Option Shared). raised_slot o d.end) at ∙ ap (λ (x : Object). (close_end x d.end).1) (sym (ap unwrapped (ap (λ (m : ℕ). object_of (files_in v) m) (sym n) ∙ object_is k v inv same key d is)))));
          other = other_left k.descriptions.slots k.objects.slots k.described k.made inv.descriptions inv.objects inv.backed inv.owned key d is (files_in new) (map key_number ds) entry.other
              (ap (λ (xs : List (Option Description)). places xs k.described) (sym f)) (ap (map key_number) (sym f)) (eo ∙ ap (λ (o : Option Shared). other_slot o d.end) at);
        }

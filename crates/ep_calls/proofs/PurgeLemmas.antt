-- The links of registrations, where something is raised and where a description dies.
use Rattle.std.proofs.Common.{◌≡◌, ◌∙◌, ℕ, true, false, List, [], ◌∷◌, None, Option, Some, ap, cond, filter, map, refl, sym}
use Rattle.ep_base.specs.declared.ids.DescId.{DescId}
use Rattle.ep_base.specs.declared.ids.EntryId.{EntryId}
use Rattle.ep_base.specs.declared.mask.Mask.{Mask}
use Rattle.ep_interest.specs.Registrations.{IsSound, Registrations, is_apart_from, is_on, left_number, number_under, raised_on}
use Rattle.ep_interest.specs.declared.entry.Entry.{Entry}
use Rattle.ep_machine.specs.Bits.{IN, at_end}
use Rattle.ep_machine.specs.Files.{side_of}
use Rattle.ep_nest.specs.Links.{is_apart_from as has_no_end}
use Rattle.ep_nest.specs.declared.link.Link.{Link}
use Rattle.ep_calls.specs.Climb.{KeepsLinks, is_nested, is_nested_key, link_of}
use Rattle.ep_calls.specs.Raising.{Stirs, bits_of, due_bits, raised_each, raised_there, raised_where}
use Rattle.ep_calls.specs.declared.raising.Raising.{Raising}
use Rattle.ep_calls.specs.declared.raising.Raising.TheVariants.{Clock, Instance, Losses, Nowhere, Object}
use Rattle.ep_calls.proofs.OtherEndLemmas.{noted}
use Rattle.ep_calls.proofs.EntryKeyLemmas.{ids_left, left_was, links_named}
use Rattle.ep_calls.proofs.GraphLemmas.{links_by_keys, links_filtered, links_mapped}
use Rattle.ep_table.specs.Closing.{opposite}
use Rattle.ep_table.specs.Live.{live_ids}
use Rattle.ep_table.specs.Value.{Seen, number_of}
use Rattle.ep_table.specs.declared.words.Loss.{Loss}

-- what is raised at a description leaves each link
raised_link : (r : Registrations) (d : DescId) (m : Mask) (n : ℕ) (x : Entry) → link_of r (raised_on d m n x) ≡ link_of r x
raised_link r d m n x = elim (is_on d x) as (λ b. link_of r (cond b (noted n m.0 x) x) ≡ link_of r x) [ true ↦ refl | false ↦ refl ]

raised_kind : (r : Registrations) (v : Seen) (d : DescId) (m : Mask) (n : ℕ) (x : Entry) → is_nested v (raised_on d m n x) ≡ is_nested v x
raised_kind r v d m n x = ap (λ (l : Link). is_nested_key v l.inner) (raised_link r d m n x)

there_link : (r : Registrations) (o : Option DescId) (m : Mask) (n : ℕ) (x : Entry) → link_of r (raised_there o m n x) ≡ link_of r x
there_link r None m n x = refl
there_link r (Some d) m n x = raised_link r d m n x

pub links_raised : (r : Registrations) (v : Seen) (d : DescId) (m : Mask) (n : ℕ) (xs : List Entry) → map (link_of r) (filter (is_nested v) (map (raised_on d m n) xs)) ≡ map (link_of r) (filter (is_nested v) xs)
links_raised r v d m n xs = links_mapped r (is_nested v) (raised_on d m n) (raised_link r d m n) (raised_kind r v d m n) xs

pub links_there : (r : Registrations) (v : Seen) (o : Option DescId) (m : Mask) (n : ℕ) (xs : List Entry) → map (link_of r) (filter (is_nested v) (map (raised_there o m n) xs)) ≡ map (link_of r) (filter (is_nested v) xs)
links_there r v o m n xs = links_mapped r (is_nested v) (raised_there o m n) (there_link r o m n) (λ x. ap (λ (l : Link). is_nested_key v l.inner) (there_link r o m n x)) xs

links_each : (r : Registrations) (v : Seen) (f : DescId → Mask) (n : ℕ) (ids : List DescId) (xs : List Entry) → map (link_of r) (filter (is_nested v) (raised_each f n ids xs)) ≡ map (link_of r) (filter (is_nested v) xs)
links_each r v f n [] xs = refl
links_each r v f n (id ∷ ids) xs = links_each r v f n ids (map (raised_on id (f id) n) xs) ∙ links_raised r v id (f id) n xs

links_where : (r : Registrations) (v : Seen) (n : ℕ) (ls : List Loss) (xs : List Entry) → map (link_of r) (filter (is_nested v) (raised_where n ls xs)) ≡ map (link_of r) (filter (is_nested v) xs)
links_where r v n [] xs = refl
links_where r v n (l ∷ ls) xs = links_where r v n ls (map (raised_on l.desc l.raised n) xs) ∙ links_raised r v l.desc l.raised n xs

pub links_stirred : (raising : Raising) (v : Seen) (now n : ℕ) (old new : Registrations) → Stirs raising v now n old new → map (link_of new) (filter (is_nested v) new.entries) ≡ map (link_of old) (filter (is_nested v) old.entries)
links_stirred Nowhere v now n old new h = ap (λ (r : Registrations). map (link_of r) (filter (is_nested v) r.entries)) h
links_stirred (Object desc raised) v now n old new h =
    links_by_keys old new (is_nested v) new.entries h.keys
    ∙ (ap (λ (xs : List Entry). map (link_of old) (filter (is_nested v) xs)) h.entries
    ∙ (links_there old v h.other (bits_of (at_end raised (opposite (side_of v.files (number_of v desc))))) n (map (raised_on desc (bits_of (at_end raised (side_of v.files (number_of v desc)))) n) old.entries)
    ∙ links_raised old v desc (bits_of (at_end raised (side_of v.files (number_of v desc)))) n old.entries))
links_stirred (Instance desc) v now n old new h =
    links_by_keys old new (is_nested v) new.entries h.2
    ∙ (ap (λ (xs : List Entry). map (link_of old) (filter (is_nested v) xs)) h.0 ∙ links_raised old v desc (bits_of IN) n old.entries)
links_stirred Losses v now n old new h =
    links_by_keys old new (is_nested v) new.entries h.2
    ∙ (ap (λ (xs : List Entry). map (link_of old) (filter (is_nested v) xs)) h.0 ∙ links_where old v n v.losses old.entries)
links_stirred (Clock since) v now n old new h =
    links_by_keys old new (is_nested v) new.entries h.2
    ∙ (ap (λ (xs : List Entry). map (link_of old) (filter (is_nested v) xs)) h.0 ∙ links_each old v (due_bits v since now) n (live_ids v.keys) old.entries)

-- a death takes away the links of the registrations that go with it, and what it raises leaves the others
pub keeps_purged : (d : DescId) (o : Option DescId) (m : Mask) (n : ℕ) (old mid new : Registrations) (links links_now : List Link)
    → IsSound old → IsSound mid → mid.entries ≡ filter (is_apart_from d) old.entries → ((id : EntryId) → number_under mid id ≡ left_number mid.entries (number_under old id))
    → new.entries ≡ map (raised_there o m n) mid.entries → new.keys ≡ mid.keys → links_now ≡ filter (has_no_end d.0) links → KeepsLinks old links new links_now
keeps_purged d o m n old mid new links links_now was is purged numbers entries keys left v h =
    left
    ∙ (ap (filter (has_no_end d.0)) h
    ∙ (links_filtered old (is_nested v) (has_no_end d.0) old.entries
    ∙ (ap (λ (xs : List Entry). map (link_of old) (filter (is_nested v) xs)) (sym purged)
    ∙ (links_named (is_nested v) old mid mid.entries (ids_left old mid was is (λ id k number. left_was mid.entries (number_under old id) k (sym (numbers id) ∙ number)))
    ∙ (sym (links_there mid v o m n mid.entries)
    ∙ (ap (λ (xs : List Entry). map (link_of mid) (filter (is_nested v) xs)) (sym entries)
    ∙ sym (links_by_keys mid new (is_nested v) new.entries keys)))))))

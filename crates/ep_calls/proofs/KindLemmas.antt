-- What is registered keeps its kind, so that the graph is still that of the registrations.
use Rattle.std.proofs.Common.{◌≡◌, ◌∙◌, ◌==◌, ℕ, All, List, [], ◌∷◌, ap, map, sym}
use Rattle.std.proofs.lemmas.List.Elements.{All-cons, All-head, All-nil, All-tail}
use Rattle.ep_interest.specs.Registrations.{Registrations}
use Rattle.ep_interest.specs.declared.entry.Entry.{Entry}
use Rattle.ep_machine.specs.Files.{Files, object_of}
use Rattle.ep_view.proofs.KindLemmas.{instance_kind}
use Rattle.ep_view.specs.KernelView.{KernelWatch}
use Rattle.ep_view.specs.AtRest.{kind_of}
use Rattle.ep_nest.specs.declared.link.Link.{Link}
use Rattle.ep_calls.specs.Climb.{AreNested, is_nested}
use Rattle.ep_calls.specs.Stands.{AreLinked, KeepsKeys, number_at, watch_at}
use Rattle.ep_calls.proofs.KeyLemmas.{number_kept}
use Rattle.ep_calls.proofs.GraphLemmas.{links_same}
use Rattle.ep_table.specs.Value.{Seen}

-- Targets that keep their kind.
abbrev pub KeepKinds : Files → Files → List KernelWatch → Type 0
KeepKinds f g xs = All (λ w. kind_of (object_of g w.target) ≡ kind_of (object_of f w.target)) xs

module _ (u v : Seen) where
  same_kind : (x : Entry) → number_at u.keys x.desc ≡ number_at v.keys x.desc → kind_of (object_of v.files (number_at v.keys x.desc)) ≡ kind_of (object_of u.files (number_at v.keys x.desc)) → is_nested u x ≡ is_nested v x
  same_kind x number kind =
      instance_kind (object_of u.files (number_at u.keys x.desc))
      ∙ (ap (λ (d : ℕ). kind_of (object_of u.files d) == 1) number
      ∙ (ap (λ (k : ℕ). k == 1) (sym kind) ∙ sym (instance_kind (object_of v.files (number_at v.keys x.desc)))))

  same_kinds : (xs : List Entry) → All (λ x. number_at u.keys x.desc ≡ number_at v.keys x.desc) xs → KeepKinds u.files v.files (map (watch_at v.keys) xs) → All (λ x. is_nested u x ≡ is_nested v x) xs
  same_kinds [] numbers kinds = All-nil (λ x. is_nested u x ≡ is_nested v x)
  same_kinds (x ∷ xs) numbers kinds =
      let P : KernelWatch → Type 0 = λ w. kind_of (object_of v.files w.target) ≡ kind_of (object_of u.files w.target) in
      let Q : Entry → Type 0 = λ y. number_at u.keys y.desc ≡ number_at v.keys y.desc in
      All-cons (λ y. is_nested u y ≡ is_nested v y) x xs (same_kind x (All-head Q x xs numbers) (All-head P (watch_at v.keys x) (map (watch_at v.keys) xs) kinds))
      (same_kinds xs (All-tail Q x xs numbers) (All-tail P (watch_at v.keys x) (map (watch_at v.keys) xs) kinds))

  pub nested_over : (r : Registrations) (graph : List Link) → All (λ x. number_at u.keys x.desc ≡ number_at v.keys x.desc) r.entries → KeepKinds u.files v.files (map (watch_at v.keys) r.entries) → AreNested u r graph → AreNested v r graph
  nested_over r graph numbers kinds h = h ∙ links_same r (is_nested u) (is_nested v) r.entries (same_kinds r.entries numbers kinds)

-- over deaths
pub nested_left : (u v : Seen) (r : Registrations) (graph : List Link) → KeepsKeys v u → AreLinked v r → KeepKinds u.files v.files (map (watch_at v.keys) r.entries) → AreNested u r graph → AreNested v r graph
nested_left u v r graph keys linked kinds h = nested_over u v r graph (λ k d lt. number_kept v u _ keys (linked k d lt).desc) kinds h

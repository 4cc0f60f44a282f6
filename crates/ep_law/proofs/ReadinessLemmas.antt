-- Five levels are enough where the graph of instances is legal.
use Rattle.std.proofs.Common.{◌≡◌, ℕ, zero, suc, ◌==◌, ◌&&◌, ◌||◌, Bool, true, false, not, List, Option, Some, None, refl, ap, sym, subst, unwrap_or, nat_lt}
use Rattle.std.specs.List.{list_any}
use Rattle.ep_facts.proofs.NatFacts.{from_test}
use Rattle.ep_base.specs.declared.object.End.{End}
use Rattle.ep_machine.specs.Bits.{IN, ET, when, asked, has_bit}
use Rattle.ep_machine.specs.Lists.{is_among}
use Rattle.ep_machine.specs.Objects.{Object, plain, instance, is_instance}
use Rattle.ep_machine.specs.State.{State, Watch}
use Rattle.ep_machine.specs.Files.{object_of, side_of}
use Rattle.ep_machine.specs.Readiness.{present_of, is_reportable_by, is_fresh, is_ready_within, is_ready, is_reportable}
use Rattle.ep_machine.specs.Watches.{links, ends_of_chains, is_legal}
use Rattle.ep_law.specs.Laws.{Member}
use Rattle.ep_law.proofs.ListLemmas.{any_same, member_map, member_filter, among, not_empty}

-- a chain of that many links goes down from an instance
abbrev pub Goes : ℕ → List (ℕ × ℕ) → ℕ → Type 0
Goes zero ls e = Unit {0}
Goes (suc k) ls e = (l : ℕ × ℕ) × Member l ls × (l.0 ≡ e) × Goes k ls l.1

-- one link further
further : (j : ℕ) (ls : List (ℕ × ℕ)) (l : ℕ × ℕ) → Member l.0 (ends_of_chains j ls) → Member l ls → Member l.1 (ends_of_chains (suc j) ls)
further j ls l m at = member_map (λ x. x.1) l _ (member_filter (λ x. is_among (ends_of_chains j ls) x.0) l ls at (among l.0 _ m))

top : (ls : List (ℕ × ℕ)) (l : ℕ × ℕ) → Member l ls → Member l.0 (ends_of_chains 0 ls)
top ls l at = member_map (λ x. x.0) l ls at

-- from the end of the link a to the next link b
next : (j : ℕ) (ls : List (ℕ × ℕ)) (a b : ℕ × ℕ) → Member a.0 (ends_of_chains j ls) → Member a ls → b.0 ≡ a.1 → Member b.0 (ends_of_chains (suc j) ls)
next j ls a b m at e = subst (λ (d : ℕ). Member d (ends_of_chains (suc j) ls)) (sym e) (further j ls a m at)

pub no_long_chain : (ls : List (ℕ × ℕ)) (e : ℕ) → is_legal ls ≡ true → Goes 5 ls e → ⊥
no_long_chain ls e legal (a, ma, ea, (b, mb, eb, (c, mc, ec, (d, md, ed, (f, mf, ef, rest))))) =
    let m0 = top ls a ma in
    let m1 = next 0 ls a b m0 ma eb in
    let m2 = next 1 ls b c m1 mb ec in
    let m3 = next 2 ls c d m2 mc ed in
    let m4 = next 3 ls d f m3 md ef in
    not_empty f.1 (ends_of_chains 5 ls) (further 4 ls f m4 mf) legal

pub present_same : (r q : ℕ → Bool) (d : ℕ) (o : Option Object) (e : End) (now : ℕ) → (is_instance (unwrap_or o plain) ≡ true → r d ≡ q d) → present_of r d o e now ≡ present_of q d o e now
present_same r q d None e now h = refl
present_same r q d (Some instance) e now h = ap (λ (b : Bool). when b IN) (h refl)
present_same r q d o e now h = refl

reportable_same : (r q : ℕ → Bool) (s : State) (x : Watch) → (is_instance (unwrap_or (object_of s.files x.target) plain) ≡ true → r x.target ≡ q x.target) → is_reportable_by r s x ≡ is_reportable_by q s x
reportable_same r q s x h =
    let same = present_same r q x.target (object_of s.files x.target) (side_of s.files x.target) s.now h in
    λ i. nat_lt 0 (when x.armed (asked x.mask (same i))) && (not (has_bit x.mask ET) || is_fresh s x)

pub and_same : (a b c : Bool) → (a ≡ true → b ≡ c) → (a && b) ≡ (a && c)
and_same true b c h = h refl
and_same false b c h = refl

pub enough : (k : ℕ) (s : State) (e : ℕ) → (Goes k (links s) e → ⊥) → is_ready_within k s e ≡ is_ready_within (suc k) s e
enough zero s e h = absurd (h tt)
enough (suc k) s e h = any_same _ _ s.watches (λ x m.
    and_same (x.instance == e) _ _ (λ at. reportable_same (is_ready_within k s) (is_ready_within (suc k) s) s x (λ inst.
    enough k s x.target (λ goes. h ((x.instance, x.target), member_map (λ y. (y.instance, y.target)) x _ (member_filter (λ y. is_instance (unwrap_or (object_of s.files y.target) plain)) x s.watches m inst), from_test x.instance e at, goes)))))

-- an instance is ready exactly where one of its registrations is reportable
pub ready_equation : (s : State) (e : ℕ) → is_legal (links s) ≡ true → is_ready s e ≡ list_any (λ x. x.instance == e && is_reportable s x) s.watches
unfolding is_ready
ready_equation s e legal = enough 5 s e (λ goes. no_long_chain (links s) e legal goes)

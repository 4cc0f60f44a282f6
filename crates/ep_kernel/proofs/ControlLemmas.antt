-- What an epoll_ctl leaves of the ready lists, and of the hopes.
use Rattle.ep_calls.proofs.EntryLemmas.{holds_under}
use Rattle.std.proofs.Common.{◌≡◌, ◌≢◌, ◌++◌, ◌&&◌, ◌||◌, ◌⊎◌, ◌==◌, ◌∙◌, ℕ, Bool, true, false, IsSome, List, [], ◌∷◌, None, Option, Some, ap, append-nil, cond, filter, inl, inr, not, pos, refl, subst, sym, unwrap_or}
use Rattle.std.specs.List.{list_any}
use Rattle.std.specs.Option.{option_map}
use Rattle.std.specs.Ordering.{int_eq}
use Rattle.std.specs.Prelude.{MatchBool}
use Rattle.std.proofs.lemmas.Bool.{cases_Bool, cases_eq, false≢true}
use Rattle.std.proofs.lemmas.Bool.Decides.{Decides-int_eq}
use Rattle.ep_base.specs.declared.call.Event.TheVariants.{Call as CallOf}
use Rattle.ep_base.specs.declared.ids.DescId.{DescId}
use Rattle.ep_base.specs.declared.ids.EntryId.{EntryId}
use Rattle.ep_base.specs.declared.ids.Fd.{Fd}
use Rattle.ep_base.specs.declared.ids.Pid.{Pid}
use Rattle.ep_calls.specs.Control.{Names, control_call, raising_of_ctl}
use Rattle.ep_calls.specs.Parts.{Parts}
use Rattle.ep_calls.specs.Readiness.{entry_shows, readiness}
use Rattle.ep_calls.specs.Stands.{AreLinked, IsLinked, number_at}
use Rattle.ep_calls.specs.declared.control.Control.{Control}
use Rattle.ep_calls.specs.declared.control.Named.{Named}
use Rattle.ep_calls.specs.declared.raising.Raising.{Raising}
use Rattle.ep_calls.specs.declared.raising.Raising.TheVariants.{Instance, Nowhere}
use Rattle.ep_calls.proofs.KeyLemmas.{same_keys}
use Rattle.ep_interest.specs.Registrations.{IsSound, Registrations, entry_found, entry_under, has_key, number_under, numbered}
use Rattle.ep_interest.specs.declared.entry.Entry.{Entry}
use Rattle.ep_kernel.specs.Control.{Settles, is_at_instance}
use Rattle.ep_kernel.specs.Listed.{HavePlaces, HopesFor, IsListed, key_shows, may_stand, shows_found}
use Rattle.ep_kernel.specs.Push.{Gains, is_home}
use Rattle.ep_kernel.specs.Turns.{AlteredStand, HopesGo, IsAlteredKey, Turns}
use Rattle.ep_kernel.proofs.EntryLemmas.{is_under}
use Rattle.ep_kernel.proofs.PrunesLemmas.{stands_left}
use Rattle.ep_kernel.proofs.PushLemmas.{gains_none, gains_one, gains_same, have_still}
use Rattle.ep_climb.proofs.SetLemmas.{Clears, Sets}
use Rattle.ep_calls.proofs.FindLemmas.{each_numbered}
use Rattle.ep_law.proofs.ListLemmas.{all_member, any_member, filtered_member, filtered_passes}
use Rattle.std.proofs.lemmas.List.Elements.{All-from_recursion}
use Rattle.std.proofs.lemmas.Option.{none-some}
use Rattle.std.proofs.Math.Bool.{and-false, and-true, or-false, or-true}
use Rattle.ep_facts.proofs.AmongFacts.{among_append}
use Rattle.ep_facts.proofs.OptionFacts.{value_of}
use Rattle.ep_facts.proofs.BoolFacts.{both_true, from_not_false, or_cases, or_left, or_right}
use Rattle.ep_facts.proofs.NatFacts.{from_test, same_int, same_nat, test_apart}
use Rattle.ep_facts.proofs.ListFacts.{all_kept}
use Rattle.ep_machine.specs.Files.{named_by}
use Rattle.ep_machine.specs.Lists.{is_among}
use Rattle.ep_machine.specs.Watches.{is_del}
use Rattle.ep_rings.specs.KeyWalk.{entry_id}
use Rattle.ep_ready.specs.ReadyLists.{IsSound as AreSound, Lists, LosesPlace, Same, after_push, instance_at, list_at, stands, stands_by}
use Rattle.ep_table.specs.Value.{Seen, Sound, number_under as number_of_key}

-- what shows, shows where tables, clock and registrations are the same
shows_at : (p q : Parts) → q.tables ≡ p.tables → q.clock ≡ p.clock → q.interest ≡ p.interest → (o : Option Entry) → shows_found q o ≡ shows_found p o
shows_at p q tables clock interest None = refl
shows_at p q tables clock interest (Some x) = λ i. entry_shows (readiness (tables i) (clock i) (interest i)) (tables i) (clock i) x

-- a registration stands where it stood on lists that are the same
stands_alike : (l m : Lists) → ((i : ℕ) → list_at m i ≡ list_at l i) → (k : ℕ) (o : Option ℕ) → stands_by m k o ≡ stands_by l k o
stands_alike l m lists k None = refl
stands_alike l m lists k (Some i) = ap (λ (ks : List ℕ). is_among ks k) (lists i)

-- Where nothing changes.
module _ (p q : Parts) (l m : Lists) (tables : q.tables ≡ p.tables) (clock : q.clock ≡ p.clock) (interest : q.interest ≡ p.interest) (same : Same l m) (pid : Pid) (args : Control) where
  shows_same : (k : ℕ) → key_shows q k ≡ key_shows p k
  shows_same k = shows_at p q tables clock interest (entry_under q.interest (entry_id k)) ∙ ap (λ (r : Registrations). shows_found p (entry_under r (entry_id k))) interest

  stands_same : (id : EntryId) → stands m id ≡ stands l id
  stands_same id = ap (stands_by m id.0) (sym (same.places id)) ∙ stands_alike l m (λ i. sym (same.lists i)) id.0 (instance_at l id)

  places_still : HavePlaces p.interest l → HavePlaces q.interest m
  places_still have id = sym (same.places id) ∙ (have id ∙ ap (λ (r : Registrations). option_map (λ x. x.instance.0) (entry_under r id)) (sym interest))

  pub turns_still : IsListed p l → Turns (CallOf pid (control_call args)) [] p l q m
  turns_still listed = record {
    keeps = λ k. true;
    more = λ i. [];
    lists = λ i. sym (same.lists i) ∙ sym (append-nil (filter (λ k. true) (list_at l i)) ∙ all_kept (list_at l i));
    comes = λ i k on. absurd (false≢true on);
    unpicked = λ i k x h u t. refl;
    leaves = λ i k x h u f s. absurd (false≢true (sym f));
    again = λ k x u f s. absurd (false≢true f);
    altered = λ k x u op instance fd desc shows. stands_same (entry_id k) ∙ listed.complete k (sym (shows_same k) ∙ shows);
    ids = λ id n h. inl (ap (λ (r : Registrations). number_under r id) (sym interest) ∙ h);
    places = places_still listed.places;
    sound = λ id x u s. listed.sound id x (ap (λ (r : Registrations). entry_under r id) (sym interest) ∙ u) (sym (stands_same id) ∙ s);
  }

  pub hopes_still : HopesFor p l → HopesGo (CallOf pid (control_call args)) p q m
  hopes_still hopes = record {
    stays = λ k x u shows number. stands_same (entry_id k) ∙ hopes.complete k shows;
    altered = λ k x u op instance fd desc shows. stands_same (entry_id k) ∙ hopes.complete k (sym (shows_same k) ∙ shows);
    places = places_still hopes.places;
  }

-- Where one comes to the end of its list, or none does.
pub gains_settled : (id : EntryId) (b : Bool) (old new : Lists) → MatchBool b (Gains (λ k. k == id.0) old new) (new ≡ old) → Gains (λ k. k == id.0 && b) old new
gains_settled id true old new h = gains_same (λ k. k == id.0) (λ k. k == id.0 && true) old new (λ k. sym (and-true (k == id.0))) h
gains_settled id false old new h = subst (λ (l : Lists). Gains (λ k. k == id.0 && false) old l) (sym h) (gains_same (λ k. false) (λ k. k == id.0 && false) old old (λ k. sym (and-false (k == id.0))) (gains_none old))

stands_gained : (comes : ℕ → Bool) (old new : Lists) → Gains comes old new → (k i : ℕ) → instance_at old (entry_id k) ≡ Some i → stands new (entry_id k) ≡ (stands old (entry_id k) || comes k)
stands_gained comes old new gains k i at =
    ap (stands_by new k) (gains.places (entry_id k) ∙ at)
    ∙ (gains.each i k
    ∙ ((λ t. is_among (list_at old i) k || comes k && is_home i (at t))
    ∙ (ap (λ (b : Bool). is_among (list_at old i) k || comes k && b) (same_nat i)
    ∙ (ap (λ (b : Bool). is_among (list_at old i) k || b) (and-true (comes k))
    ∙ ap (λ (o : Option ℕ). stands_by old k o || comes k) (sym at)))))

any_of : (f g : Entry → Bool) (xs : List Entry) (n : ℕ) (x : Entry) → numbered xs n ≡ Some x → f x ≡ true → g x ≡ true → list_any g (filter f xs) ≡ true
any_of f g [] n x h is shows = absurd (none-some x h)
any_of f g (z ∷ xs) n x h is shows = elim (cases_Bool (z.number == n)) [
  | inl e ↦
      let same : z ≡ x = ap (λ (o : Option Entry). unwrap_or o z) (ap (λ (b : Bool). cond b (Some z) (numbered xs n)) (sym e) ∙ h) in
      ap (λ (b : Bool). list_any g (cond b (z ∷ filter f xs) (filter f xs))) (ap f same ∙ is) ∙ ap (λ (b : Bool). b || list_any g (filter f xs)) (ap g same ∙ shows)
  | inr e ↦
      let rest = any_of f g xs n x (ap (λ (b : Bool). cond b (Some z) (numbered xs n)) (sym e) ∙ h) is shows in
      elim (f z) as (λ b. list_any g (cond b (z ∷ filter f xs) (filter f xs)) ≡ true) [
        | true ↦ ap (λ (b : Bool). g z || b) rest ∙ or-true (g z)
        | false ↦ rest
      ]
]

-- it has the instance, descriptor number and description of the call
pub record IsNamed (named : Named) (under : Fd) (x : Entry) : Type 0 where
  pub instance : x.instance.0 ≡ named.instance.0
  pub fd : x.fd.0 ≡ under.0
  pub desc : x.desc.0 ≡ named.desc.0

-- what has the numbers of the call has its keys
module _ (v : Seen) (sound : Sound v) (pid : ℕ) (args : Control) (named : Named) (names : Names v pid args.epfd.0 args.fd.0 named) (x : Entry) (linked : IsLinked v.keys x) where
  key_is : (a b : DescId) → IsSome (number_of_key v a) → IsSome (number_of_key v b) → number_at v.keys a ≡ number_at v.keys b → a.0 ≡ b.0
  key_is a b h i e = from_test a.0 b.0 (sym (same_keys v a b sound h i) ∙ (ap (λ (n : ℕ). n == number_at v.keys b) e ∙ same_nat (number_at v.keys b)))

  pub named_is : number_at v.keys x.instance ≡ named_by v.files pid args.epfd.0 → x.fd ≡ args.fd → number_at v.keys x.desc ≡ named_by v.files pid args.fd.0 → IsNamed named args.fd x
  named_is instance fd desc = record {
    instance = key_is x.instance named.instance linked.instance names.instance_lives (instance ∙ ap (λ (o : Option ℕ). unwrap_or o 0) (sym names.instance));
    fd = ap (λ (n : Fd). n.0) fd;
    desc = key_is x.desc named.desc linked.desc names.desc_lives (desc ∙ ap (λ (o : Option ℕ). unwrap_or o 0) (sym names.desc));
  }

keyed_named : (named : Named) (fd : Fd) (x : Entry) → IsNamed named fd x → has_key named.instance fd named.desc x ≡ true
keyed_named named fd x is =
    (λ i. is.instance i == named.instance.0 && int_eq (is.fd i) fd.0 && is.desc i == named.desc.0)
    ∙ (λ i. same_nat named.instance.0 i && same_int fd.0 i && same_nat named.desc.0 i)

keyed_by : (named : Named) (fd : Fd) (x : Entry) → has_key named.instance fd named.desc x ≡ true → IsNamed named fd x
keyed_by named fd x h =
    let two = both_true (x.instance.0 == named.instance.0 && int_eq x.fd.0 fd.0) (x.desc.0 == named.desc.0) h in
    let one = both_true (x.instance.0 == named.instance.0) (int_eq x.fd.0 fd.0) two.0 in
    record { instance = from_test x.instance.0 named.instance.0 one.0; fd = (Decides-int_eq x.fd.0 fd.0).0 one.1; desc = from_test x.desc.0 named.desc.0 two.1 }

one_named : (named : Named) (fd : Fd) (x y : Entry) → IsNamed named fd x → IsNamed named fd y → has_key y.instance y.fd y.desc x ≡ true
one_named named fd x y a b =
    (λ i. (a.instance ∙ sym b.instance) i == y.instance.0 && int_eq ((a.fd ∙ sym b.fd) i) y.fd.0 && (a.desc ∙ sym b.desc) i == y.desc.0)
    ∙ (λ i. same_nat y.instance.0 i && same_int y.fd.0 i && same_nat y.desc.0 i)

-- Where one registration is added or modified.
module _ (pid : Pid) (args : Control) (p q : Parts) (mid m : Lists) (tables : q.tables ≡ p.tables) (sound : Sound p.tables) (linked : AreLinked q.tables q.interest) (is : IsSound q.interest)
    (named : Named) (names : Names p.tables pid.0 args.epfd.0 args.fd.0 named) (id : EntryId) (y : Entry) (sets : Sets p.interest q.interest id y) (keyed : IsNamed named args.fd y)
    (have : HavePlaces q.interest mid) (raising : Raising) (raises : raising ≡ raising_of_ctl q.tables q.clock q.interest named args.fd)
    (settles : MatchBool (is_at_instance raising) (Gains (λ k. k == id.0) mid m) (m ≡ mid))
  where
    abbrev comes : ℕ → Bool
    comes k = k == id.0 && is_at_instance raising

    gains : Gains comes mid m
    gains = gains_settled id (is_at_instance raising) mid m settles

    -- what is there has a place
    at : (k : ℕ) (x : Entry) → entry_under q.interest (entry_id k) ≡ Some x → instance_at mid (entry_id k) ≡ Some x.instance.0
    at k x u = have (entry_id k) ∙ ap (option_map (λ (z : Entry). z.instance.0)) u

    at_id : (k : ℕ) (x : Entry) → entry_under q.interest (entry_id k) ≡ Some x → IsNamed named args.fd x → k ≡ id.0
    at_id k x u n =
        let here = is_under q.interest id y sets.here in
        let there = is_under q.interest (entry_id k) x u in
        let number : y.number ≡ x.number = is.apart y.number x.number y x here.there there.there (one_named named args.fd x y n keyed) in
        ap (λ (j : EntryId). j.0) (is.one_key (entry_id k) id x.number there.number (here.number ∙ ap (λ (j : ℕ). Some j) number))

    raised : (k : ℕ) (x : Entry) → entry_under q.interest (entry_id k) ≡ Some x → IsNamed named args.fd x → key_shows q k ≡ true → is_at_instance raising ≡ true
    raised k x u n shows =
        let any = any_of (has_key named.instance args.fd named.desc) (entry_shows (readiness q.tables q.clock q.interest) q.tables q.clock) q.interest.entries x.number x (is_under q.interest (entry_id k) x u).there (keyed_named named args.fd x n) (ap (shows_found q) (sym u) ∙ shows) in
        ap is_at_instance raises ∙ ap (λ (b : Bool). is_at_instance (cond b (Instance named.instance) Nowhere)) any

    stands_named : (k : ℕ) (x : Entry) → entry_under q.interest (entry_id k) ≡ Some x → IsNamed named args.fd x → key_shows q k ≡ true → stands m (entry_id k) ≡ true
    stands_named k x u n shows =
        stands_gained comes mid m gains k x.instance.0 (at k x u)
        ∙ (ap (λ (b : Bool). stands mid (entry_id k) || k == id.0 && b) (raised k x u n shows)
        ∙ (ap (λ (j : ℕ). stands mid (entry_id k) || j == id.0 && true) (at_id k x u n)
        ∙ (ap (λ (b : Bool). stands mid (entry_id k) || b && true) (same_nat id.0) ∙ or-true (stands mid (entry_id k)))))

    -- what comes, is this one
    shows_raised : is_at_instance raising ≡ true → key_shows q id.0 ≡ true
    shows_raised at_instance = by (list_any (entry_shows (readiness q.tables q.clock q.interest) q.tables q.clock) (filter (has_key named.instance args.fd named.desc) q.interest.entries)) refl (ap is_at_instance (sym raises) ∙ at_instance) where
      by : (b : Bool) → list_any (entry_shows (readiness q.tables q.clock q.interest) q.tables q.clock) (filter (has_key named.instance args.fd named.desc) q.interest.entries) ≡ b → is_at_instance (cond b (Instance named.instance) Nowhere) ≡ true → key_shows q id.0 ≡ true
      by false h t = absurd (false≢true t)
      by true h t =
          let x = any_member (entry_shows (readiness q.tables q.clock q.interest) q.tables q.clock) (filter (has_key named.instance args.fd named.desc) q.interest.entries) h in
          let there = filtered_member (has_key named.instance args.fd named.desc) q.interest.entries x.0 x.1 in
          let found = all_member (λ (z : Entry). numbered q.interest.entries z.number ≡ Some z) q.interest.entries x.0 (All-from_recursion (λ (z : Entry). numbered q.interest.entries z.number ≡ Some z) q.interest.entries (each_numbered 0 q.interest.entries is.rises)) there in
          let here = is_under q.interest id y sets.here in
          let named_too = keyed_by named args.fd x.0 (filtered_passes (has_key named.instance args.fd named.desc) q.interest.entries x.0 x.1) in
          let number : y.number ≡ x.0.number = is.apart y.number x.0.number y x.0 here.there found (one_named named args.fd x.0 y named_too keyed) in
          let same : Some y ≡ Some x.0 = sym here.there ∙ (ap (numbered q.interest.entries) number ∙ found) in
          ap (shows_found q) (sets.here ∙ same) ∙ x.2

    altered_set : AlteredStand (CallOf pid (control_call args)) p q m
    altered_set = λ k x u op instance fd desc shows.
        stands_named k x u (named_is p.tables sound pid.0 args named names x (subst (λ (v : Seen). IsLinked v.keys x) tables (holds_under (IsLinked q.tables.keys) q.interest (entry_id k) x linked u)) instance fd desc) shows

    -- of the ready lists
    module _ (l : Lists) (listed : IsListed p l) (may : may_stand y ≡ true) (lists : (i : ℕ) → list_at mid i ≡ list_at l i) (keeps : is_del args.op ≡ false) where
      still : (k : ℕ) (x : Entry) → k ≢ id.0 → entry_under q.interest (entry_id k) ≡ Some x → stands m (entry_id k) ≡ stands l (entry_id k)
      still k x ne u =
          let was : entry_under p.interest (entry_id k) ≡ Some x = sym (sets.others (entry_id k) ne) ∙ u in
          stands_gained comes mid m gains k x.instance.0 (at k x u)
          ∙ (ap (λ (b : Bool). stands mid (entry_id k) || b && is_at_instance raising) (test_apart k id.0 ne)
          ∙ (or-false (stands mid (entry_id k))
          ∙ (ap (stands_by mid k) (at k x u ∙ sym (listed.places (entry_id k) ∙ ap (option_map (λ (z : Entry). z.instance.0)) was))
          ∙ stands_alike l mid lists k (instance_at l (entry_id k)))))

      stands_soundly : (k : EntryId) (x : Entry) → entry_under q.interest k ≡ Some x → stands m k ≡ true → may_stand x ≡ true
      stands_soundly k x u s = elim (cases_eq k.0 id.0) [
        | inl e ↦
            let same : Some x ≡ Some y = sym u ∙ (ap (λ (n : ℕ). entry_under q.interest (record { 0 = n })) e ∙ sets.here) in
            ap (λ (o : Option Entry). may_stand (unwrap_or o x)) same ∙ may
        | inr ne ↦ listed.sound k x (sym (sets.others k ne) ∙ u) (sym (still k.0 x ne u) ∙ s)
      ]

      come_named : (i k : ℕ) → is_among (gains.more i) k ≡ true → (is_among (list_at l i) k ≡ true) ⊎ IsAlteredKey (CallOf pid (control_call args)) p q k
      come_named i k on = elim (or_cases (is_among (list_at mid i) k) (comes k && is_home i (instance_at mid (entry_id k))) (sym (gains.each i k) ∙ (ap (λ (ks : List ℕ). is_among ks k) (gains.lists i) ∙ (among_append (list_at mid i) (gains.more i) k ∙ or_right (is_among (list_at mid i) k) _ on)))) [
        | inl stood_there ↦ inl (ap (λ (ks : List ℕ). is_among ks k) (sym (lists i)) ∙ stood_there)
        | inr came ↦
            let two = both_true (k == id.0) (is_at_instance raising) (both_true (comes k) (is_home i (instance_at mid (entry_id k))) came).0 in
            let key : k ≡ id.0 = from_test k id.0 two.0 in
            inr (λ x u.
            let same : Some x ≡ Some y = sym u ∙ (ap (λ (m : ℕ). entry_under q.interest (record { 0 = m })) key ∙ sets.here) in
            let here : x ≡ y = ap (λ (o : Option Entry). unwrap_or o x) same in
            let descriptor : x.fd.0 ≡ args.fd.0 = ap (λ (z : Entry). z.fd.0) here ∙ keyed.fd in (
              keeps,
              ((λ j. number_at (tables j).keys (record { 0 = (ap (λ (z : Entry). z.instance.0) here ∙ keyed.instance) j })) ∙ ap (λ (o : Option ℕ). unwrap_or o 0) names.instance),
              (λ j. record { 0 = descriptor j }),
              ((λ j. number_at (tables j).keys (record { 0 = (ap (λ (z : Entry). z.desc.0) here ∙ keyed.desc) j })) ∙ ap (λ (o : Option ℕ). unwrap_or o 0) names.desc),
              ap (key_shows q) key ∙ shows_raised two.1,
            ))
      ]

      pub turns_set : Turns (CallOf pid (control_call args)) [] p l q m
      turns_set = record {
        keeps = λ k. true;
        more = gains.more;
        lists = λ i. gains.lists i ∙ ap (λ (ks : List ℕ). ks ++ gains.more i) (lists i ∙ sym (all_kept (list_at l i)));
        comes = come_named;
        unpicked = λ i k x h u t. refl;
        leaves = λ i k x h u f s. absurd (false≢true (sym f));
        again = λ k x u f s. absurd (false≢true f);
        altered = altered_set;
        ids = sets.ids;
        places = have_still q.interest comes mid m have gains;
        sound = stands_soundly;
      }

    -- of the hopes
    module _ (l : Lists) (hopes : HopesFor p l) (lists : (i : ℕ) → list_at mid i ≡ list_at l i) (home : (k : ℕ) (x : Entry) → entry_under p.interest (entry_id k) ≡ Some x → instance_at mid (entry_id k) ≡ Some x.instance.0) where
      stood_still : (k : ℕ) (x : Entry) → entry_under p.interest (entry_id k) ≡ Some x → key_shows p k ≡ true → stands mid (entry_id k) ≡ true
      stood_still k x u shows =
          let was : is_among (list_at l x.instance.0) k ≡ true = sym (ap (stands_by l k) (hopes.places (entry_id k) ∙ ap (option_map (λ (z : Entry). z.instance.0)) u)) ∙ hopes.complete k shows in
          ap (stands_by mid k) (home k x u) ∙ (ap (λ (ks : List ℕ). is_among ks k) (lists x.instance.0) ∙ was)

      pub hopes_set : HopesGo (CallOf pid (control_call args)) p q m
      hopes_set = record {
        stays = λ k x u shows number. stands_gained comes mid m gains k x.instance.0 (home k x u) ∙ or_left (stands mid (entry_id k)) (comes k) (stood_still k x u shows);
        altered = altered_set;
        places = have_still q.interest comes mid m have gains;
      }

-- Where one is deleted.
among_left : (f : ℕ → Bool) (xs : List ℕ) (k : ℕ) → is_among (filter f xs) k ≡ true → is_among xs k ≡ true
among_left f [] k h = h
among_left f (x ∷ xs) k h =
    elim (f x) as (λ b. is_among (cond b (x ∷ filter f xs) (filter f xs)) k ≡ true → (k == x || is_among xs k) ≡ true) [
      | true ↦ λ e. elim (k == x) as (λ b. (b || is_among (filter f xs) k) ≡ true → (b || is_among xs k) ≡ true) [
        | true ↦ λ g. refl
        | false ↦ λ g. among_left f xs k g
      ] e
      | false ↦ λ e. ap (λ (b : Bool). k == x || b) (among_left f xs k e) ∙ or-true (k == x)
    ] h

module _ (pid : Pid) (args : Control) (p q : Parts) (l m : Lists) (deletes : args.op ≡ pos 2) (id : EntryId) (clears : Clears p.interest q.interest id) (loses : LosesPlace l m id) where
  gone_entry : (k : EntryId) → k.0 ≡ id.0 → entry_under q.interest k ≡ None
  gone_entry k e = ap (λ (n : ℕ). entry_under q.interest (record { 0 = n })) e ∙ ap (entry_found q.interest.entries) clears.gone

  stood : (k : EntryId) → k.0 ≢ id.0 → (o : Option ℕ) → instance_at l k ≡ o → stands_by m k.0 o ≡ true → stands_by l k.0 o ≡ true
  stood k ne None h s = s
  stood k ne (Some i) h s = among_left (λ x. not (x == id.0)) (list_at l i) k.0 (ap (λ (ks : List ℕ). is_among ks k.0) (sym (loses.lists i)) ∙ s)

  altered_none : AlteredStand (CallOf pid (control_call args)) p q m
  altered_none = λ k x u op instance fd desc shows. absurd (false≢true (sym op ∙ ap is_del deletes))

  places_cleared : HavePlaces p.interest l → HavePlaces q.interest m
  places_cleared have k = elim (cases_eq k.0 id.0) [
    | inl e ↦ ap (λ (n : ℕ). instance_at m (record { 0 = n })) e ∙ (loses.gone ∙ sym (ap (option_map (λ (z : Entry). z.instance.0)) (gone_entry k e)))
    | inr ne ↦ loses.others k ne ∙ (have k ∙ ap (option_map (λ (z : Entry). z.instance.0)) (sym (clears.others k ne)))
  ]

  module _ (listed : IsListed p l) where
    left_soundly : (k : EntryId) (x : Entry) → entry_under q.interest k ≡ Some x → stands m k ≡ true → may_stand x ≡ true
    left_soundly k x u s = elim (cases_eq k.0 id.0) [
      | inl e ↦ absurd (none-some x (sym (gone_entry k e) ∙ u))
      | inr ne ↦
          let here = stood k ne (instance_at l k) refl (ap (stands_by m k.0) (sym (loses.others k ne)) ∙ s) in
          listed.sound k x (sym (clears.others k ne) ∙ u) here
    ]

    pub turns_cleared : Turns (CallOf pid (control_call args)) [] p l q m
    turns_cleared = record {
      keeps = λ k. not (k == id.0);
      more = λ i. [];
      lists = λ i. loses.lists i ∙ sym (append-nil (filter (λ k. not (k == id.0)) (list_at l i)));
      comes = λ i k on. absurd (false≢true on);
      unpicked = λ i k x h u t. refl;
      leaves = λ i k x h u f s. inr (ap (λ (n : ℕ). number_under q.interest (record { 0 = n })) (from_test k id.0 (from_not_false (k == id.0) f)) ∙ clears.gone);
      again = λ k x u f s. absurd (false≢true f);
      altered = altered_none;
      ids = clears.ids;
      places = places_cleared listed.places;
      sound = left_soundly;
    }

  pub hopes_cleared : HopesFor p l → HopesGo (CallOf pid (control_call args)) p q m
  hopes_cleared hopes = record {
    stays = λ k x u shows number.
        let other : k ≢ id.0 = λ e. none-some x.number (sym clears.gone ∙ (ap (λ (n : ℕ). number_under q.interest (record { 0 = n })) (sym e) ∙ number)) in
        stands_left l m (λ j. not (j == id.0)) k (loses.others (entry_id k) other) loses.lists (ap not (test_apart k id.0 other)) (hopes.complete k shows);
    altered = altered_none;
    places = places_cleared hopes.places;
  }

-- what is left and raised at its instance comes to the end
pub settled_end : (l new : Lists) (id : EntryId) (entry : Option Entry) (x : Entry) (raising : Raising) → AreSound l → IsSome (instance_at l id) → entry ≡ Some x → is_at_instance raising ≡ true → new ≡ after_push l id → Settles id entry raising l new
settled_end l new id entry x raising sound placed there raised is =
    subst (λ (o : Option Entry). Settles id o raising l new) (sym there)
    (subst (λ (b : Bool). MatchBool b (Gains (λ k. k == id.0) l new) (new ≡ l)) (sym raised) (let at = value_of (instance_at l id) placed in gains_one l sound id at.0 at.1 new is))

-- What an instance lost that an event leaves unguarded.
use Rattle.std.proofs.Common.{◌≡◌, ℕ, zero, suc, ◌≤◌, ◌==◌, ◌&&◌, ◌||◌, ◌∙◌, Bool, List, None, true, false, not, ap, arith, inl, inr, map, refl, subst, sym, nat_lt, if◌then◌else◌}
use Rattle.std.proofs.lemmas.Bool.{cases_Bool, false≢true, or_parts}
use Rattle.ep_facts.proofs.NatFacts.{from_test, same_test}
use Rattle.ep_facts.proofs.BoolFacts.{first_of_and, or_cases, or_left, or_nothing_false, or_right, second_of_and}
use Rattle.ep_base.specs.Limits.{Limits}
use Rattle.ep_base.specs.declared.call.Call.TheVariants.{EpollCtl}
use Rattle.ep_base.specs.declared.call.Event.{Event}
use Rattle.ep_base.specs.declared.call.Event.TheVariants.{Call as CallOf}
use Rattle.ep_base.specs.declared.errno.Errno.{Errno}
use Rattle.ep_base.specs.declared.errno.Errno.TheVariants.{Eexist}
use Rattle.ep_law.specs.Laws.{Member, has_instance}
use Rattle.ep_law.specs.Sound.{Sound}
use Rattle.ep_machine.specs.Bits.{EXCLUSIVE, has_bit}
use Rattle.ep_machine.specs.Deaths.{buried, die_all, dying, is_kept}
use Rattle.ep_machine.specs.Effect.{first}
use Rattle.ep_machine.specs.Exclusive.{is_guarded, is_guarded_within}
use Rattle.ep_machine.specs.Files.{is_live, named_by, object_of}
use Rattle.ep_machine.specs.Lists.{is_among}
use Rattle.ep_view.proofs.KindLemmas.{is_instance_of_kind, kind_of_instance}
use Rattle.ep_machine.specs.Readiness.{is_reportable}
use Rattle.ep_machine.specs.Refusal.{refusals}
use Rattle.ep_machine.specs.Settle.{came, reportable_numbers, settle}
use Rattle.ep_machine.specs.Spread.{arrived}
use Rattle.ep_machine.specs.State.{State, Watch}
use Rattle.ep_machine.specs.Step.{next_event}
use Rattle.ep_machine.specs.Watches.{has_key, is_add, is_del, is_exclusive, is_exclusive_there, is_mod, is_there, links, number_in}
use Rattle.ep_law.proofs.GraphLemmas.{is_einval, link_in, linked_begun, linked_change, member_of_map, none_held}
use Rattle.ep_law.proofs.InstanceLemmas.{narrows_deaths}
use Rattle.ep_law.proofs.GuardLemmas.{none_member}
use Rattle.ep_law.proofs.ListLemmas.{all_member, among_member, any_has, any_member, filtered_member, filtered_passes, mapped_member, one_number}
use Rattle.ep_law.proofs.RegularLemmas.{runs_are_regular, well_made_run}
use Rattle.ep_order.specs.Mark.{HasLost, LosesGuard}
use Rattle.ep_order.proofs.OriginLemmas.{Modified, Origin, origins}
use Rattle.ep_order.proofs.ReachLemmas.{to_contains}
use Rattle.ep_view.specs.AtRest.{kind_of}
use Rattle.ep_view.proofs.AtRestLemmas.{change_extends, quiet_begun, quiet_run}

-- it is on the same instance, of the same one, and exclusive alike
pub record GuardsAlike (x y : Watch) : Type 0 where
  pub instance_of : y.instance ≡ x.instance
  pub target : y.target ≡ x.target
  pub exclusive : is_exclusive y ≡ is_exclusive x

-- Between two states of which registrations of one number guard alike.
module _ (s t : State) (alike : (x y : Watch) → Member x s.watches → Member y t.watches → y.number ≡ x.number → GuardsAlike x y)
    (instances : (x : Watch) → Member x s.watches → has_instance s.files x.instance ≡ true)
    (stays : (y : Watch) → Member y t.watches → has_instance s.files y.target ≡ true → has_instance t.files y.target ≡ true) where
  -- what is guarded is an instance
  guarded_instance : (k e : ℕ) → is_guarded_within k s e ≡ true → has_instance s.files e ≡ true
  guarded_instance zero e h = absurd (false≢true h)
  guarded_instance (suc k) e h =
      let some = any_member (λ x. x.instance == e && (is_exclusive x || is_guarded_within k s x.target)) s.watches h in
      ap (has_instance s.files) (sym (from_test some.0.instance e (first_of_and _ _ some.2))) ∙ instances some.0 some.1

  not_both : (a b : Bool) → (a && b) ≡ false → a ≡ true → b ≡ false
  not_both true b h t = h
  not_both false b h t = absurd (false≢true t)

  loses : (k e : ℕ) → is_guarded_within k s e ≡ true → is_guarded_within k t e ≡ false → HasLost s t e
  loses zero e h f = absurd (false≢true h)
  loses (suc k) e h f =
      let some = any_member (λ x. x.instance == e && (is_exclusive x || is_guarded_within k s x.target)) s.watches h in
      let x = some.0 in
      let at : x.instance ≡ e = from_test x.instance e (first_of_and _ _ some.2) in
      let guards = or_cases (is_exclusive x) (is_guarded_within k s x.target) (second_of_and (x.instance == e) _ some.2) in
      elim (cases_Bool (is_among (map (λ y. y.number) t.watches) x.number)) [
        | inr lost ↦ record {
          x = x;
          there = some.1;
          guards = elim guards [ inl exclusive ↦ or_left _ _ exclusive | inr below ↦ or_right _ _ (guarded_instance k x.target below) ];
          gone = lost;
          stands = inl (sym at);
        }
        | inl there ↦
            let y = mapped_member (λ w. w.number) t.watches x.number (among_member (map (λ w. w.number) t.watches) x.number there) in
            let same = alike x y.0 some.1 y.1 y.2 in
            let none = or_parts (is_exclusive y.0) (is_guarded_within k t y.0.target) (not_both (y.0.instance == e) _ (none_member (λ w. w.instance == e && (is_exclusive w || is_guarded_within k t w.target)) t.watches y.0 f y.1) (same_test y.0.instance e (same.instance_of ∙ at))) in
            elim guards [
              | inl exclusive ↦ absurd (false≢true (sym none.0 ∙ (same.exclusive ∙ exclusive)))
              | inr below ↦
                  let rest = loses k x.target below (ap (is_guarded_within k t) (sym same.target) ∙ none.1) in
                  let nested : has_instance t.files y.0.target ≡ true = stays y.0 y.1 (ap (has_instance s.files) same.target ∙ guarded_instance k x.target below) in
                  let link : Member (e, x.target) (links t) = subst (λ (l : ℕ × ℕ). Member l (links t)) (λ i. ((same.instance_of ∙ at) i, same.target i)) (link_in t y.0 y.1 nested) in
                  record {
                    x = rest.x;
                    there = rest.there;
                    guards = rest.guards;
                    gone = rest.gone;
                    stands = inr (elim rest.stands [
                      | inl here ↦ (0, (x.target, to_contains (links t) (e, x.target) link, here))
                      | inr above ↦ (suc above.0, (x.target, to_contains (links t) (e, x.target) link, above.1))
                    ]);
                  }
            ]
      ]

  loses_now : (e : ℕ) → is_guarded s e ≡ true → is_guarded t e ≡ false → HasLost s t e
  unfolding is_guarded
  loses_now e h f = loses 5 e h f

-- What no refusal says of a registration that is modified.
abbrev is_eexist : Errno → Bool
is_eexist Eexist = true
is_eexist e = false

both_no : (a t : Bool) → (a && t) ≡ false → t ≡ true → a ≡ false
both_no true true h k = h
both_no true false h k = absurd (false≢true k)
both_no false t h k = refl

is_one : (a d m : Bool) → a ≡ false → d ≡ false → not (a || d || m) ≡ false → m ≡ true
is_one true d m p q h = absurd (false≢true (sym p))
is_one false true m p q h = absurd (false≢true (sym q))
is_one false false true p q h = refl
is_one false false false p q h = absurd (false≢true (sym h))

and_none : (a b : Bool) → (a && b) ≡ false → a ≡ true → b ≡ false
and_none true b h k = h
and_none false b h k = absurd (false≢true k)

module _ (limits : Limits) (b : State) (caller : ℕ) where
  modified_plainly : (event : Event) → first (refusals limits b caller event) ≡ None → (y : Watch) → (m : Modified b event y) → (is_exclusive y ≡ false) × (is_exclusive m.was ≡ false)
  modified_plainly (CallOf p (EpollCtl epfd op fd mask tag)) allowed y m =
      let e = named_by b.files p.0 epfd.0 in
      let d = named_by b.files p.0 fd.0 in
      let k = number_in fd.0 in
      let rows = refusals limits b caller (CallOf p (EpollCtl epfd op fd mask tag)) in
      let key : has_key e k d m.was ≡ true = (λ i. sym m.instance i == e && sym m.fd i == k && sym m.target i == d) ∙ m.altered.1 in
      let there : is_there b e k d ≡ true = any_has (has_key e k d) b.watches m.was m.there key in
      let instances = or_parts _ _ (none_held is_einval rows allowed) in
      let ops = or_parts _ _ instances.1 in
      let adds = or_parts _ _ ops.1 in
      let mods = or_parts _ _ adds.1 in
      let there_too = or_nothing_false _ mods.1 in
      let added : is_add op ≡ false = both_no (is_add op) (is_there b e k d) (or_nothing_false _ (none_held is_eexist rows allowed)) there in
      let is : is_mod op ≡ true = is_one (is_add op) (is_del op) (is_mod op) added m.altered.0 ops.0 in
      let none : is_exclusive_there b e k d ≡ false = and_none (is_mod op) (is_exclusive_there b e k d) there_too is in (
        ap (λ (j : ℕ). has_bit j EXCLUSIVE) m.mask ∙ and_none (is_mod op) (has_bit mask.0 EXCLUSIVE) mods.0 is,
        and_none (has_key e k d m.was) (is_exclusive m.was) (none_member (λ x. has_key e k d x && is_exclusive x) b.watches m.was none m.there) key,
      )
  modified_plainly event allowed y m = absurd m.mask

  -- a registration that is left of a change guards as it did
  alike_changed : Sound b → (event : Event) (ks : List ℕ) → first (refusals limits b caller event) ≡ None → (x y : Watch) → Member x b.watches → Origin b event ks y → y.number ≡ x.number → GuardsAlike x y
  alike_changed sound event ks allowed x y m (inl told) same =
      let is : told.was ≡ x = one_number b.watches told.was x sound.numbers told.there m (sym told.number ∙ same) in
      record { instance_of = told.instance ∙ ap (λ (w : Watch). w.instance) is; target = told.target ∙ ap (λ (w : Watch). w.target) is; exclusive = ap (λ (j : ℕ). has_bit j EXCLUSIVE) told.mask ∙ ap is_exclusive is }
  alike_changed sound event ks allowed x y m (inr (free, inl there)) same =
      let is : y ≡ x = one_number b.watches y x sound.numbers there m same in
      record { instance_of = ap (λ (w : Watch). w.instance) is; target = ap (λ (w : Watch). w.target) is; exclusive = ap is_exclusive is }
  alike_changed sound event ks allowed x y m (inr (free, inr (inl modified))) same =
      let is : modified.was ≡ x = one_number b.watches modified.was x sound.numbers modified.there m (sym modified.number ∙ same) in
      let plainly = modified_plainly event allowed y modified in
      record { instance_of = modified.instance ∙ ap (λ (w : Watch). w.instance) is; target = modified.target ∙ ap (λ (w : Watch). w.target) is; exclusive = plainly.0 ∙ (sym plainly.1 ∙ ap is_exclusive is) }
  alike_changed sound event ks allowed x y m (inr (free, inr (inr added))) same =
      let number = added.number in
      let below = all_member (λ w. w.number ≤ b.added) b.watches x sound.below m in
      absurd (omega (arith, number, below, same))

-- the end of an event
came_alike : (earlier : List ℕ) (a : State) (x y : Watch) → came earlier a x ≡ y → (y.number ≡ x.number) × GuardsAlike x y
came_alike earlier a x y is = subst (λ (z : Watch). (z.number ≡ x.number) × GuardsAlike x z) is (by (not (is_among earlier x.number) && is_reportable a x)) where
  by : (d : Bool) → ((if d then record x { from = a.n } else x).number ≡ x.number) × GuardsAlike x (if d then record x { from = a.n } else x)
  by true = (refl, record { instance_of = refl; target = refl; exclusive = refl })
  by false = (refl, record { instance_of = refl; target = refl; exclusive = refl })

alike_then : (x y z : Watch) → GuardsAlike x y → GuardsAlike y z → GuardsAlike x z
alike_then x y z g h = record { instance_of = h.instance_of ∙ g.instance_of; target = h.target ∙ g.target; exclusive = h.exclusive ∙ g.exclusive }

pub loses_guard : LosesGuard
loses_guard limits past s caller event picked c e is allowed made guarded free =
    let b = next_event s in
    let t = settle b c.1 c.2 in
    let well = well_made_run limits past s is in
    let left = buried c.1 c.2 in
    let files = (die_all (c.1.files, c.2) (dying c.1)).0 in
    let kept = is_kept (record c.1 { files = files }) in
    let from : (y : Watch) → Member y t.watches → (x : Watch) × Member x c.1.watches × (kept x ≡ true) × (y.number ≡ x.number) × GuardsAlike x y =
    λ y m. let r = member_of_map (came (reportable_numbers b) (arrived left.0 left.1)) left.0.watches y m in
    let like = came_alike (reportable_numbers b) (arrived left.0 left.1) r.0 y r.2 in
    (r.0, filtered_member kept c.1.watches r.0 r.1, filtered_passes kept c.1.watches r.0 r.1, like.0, like.1) in
    let sound = well.sound in
    let linked = linked_change limits b caller event picked c allowed made (linked_begun s well.linked) in
    let extends = change_extends limits b caller event picked c (quiet_begun s (quiet_run limits past s is)) allowed made in
    let deaths = narrows_deaths c.1.files c.2 (dying c.1) linked.made in
    loses_now s t
    (λ x y m n same. let r = from y n in
    alike_then x r.0 y (alike_changed limits b caller (record { numbers = sound.numbers; positive = sound.positive; below = sound.below; fair = sound.fair; past = λ k d lt. let p = sound.past k d lt in omega arith }) event picked allowed x r.0 m ((origins limits b caller event picked c made).2 r.0 r.1) (sym r.3 ∙ same)) r.4)
    (runs_are_regular limits past s is).instances
    (λ y n was. let r = from y n in
    let lives : is_live files y.target ≡ true = ap (is_live files) r.4.target ∙ second_of_and (is_live files r.0.instance) _ r.2 in
    let one = kind_of_instance (object_of s.files y.target) was in
    let changed = is_instance_of_kind (object_of c.1.files y.target) (extends.shows y.target (can_be (kind_of (object_of s.files y.target)) one) ∙ one) in
    deaths.stays y.target changed lives)
    e guarded free where
      can_be : (k : ℕ) → k ≡ 1 → nat_lt 0 k ≡ true
      can_be k h = ap (nat_lt 0) h

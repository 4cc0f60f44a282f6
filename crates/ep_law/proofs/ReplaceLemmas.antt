-- What connections change of objects that others have: each gives way to its like.
use Rattle.std.proofs.Common.{◌≡◌, ◌≢◌, ℕ, suc, ◌<◌, ◌||◌, ◌++◌, ◌∙◌, Bool, true, false, List, [], ◌∷◌, None, Option, Some, get_or, if◌then◌else◌, inl, inr, is_some, length, refl, ap, set, subst, sym, unwrap_or}
use Rattle.ep_machine.specs.Objects.{Object, is_plain, is_instance, object_present, plain, is_waiting, close_end, listens_at}
use Rattle.ep_object.specs.Law.{object_has, CloseLaw}
use Rattle.ep_object.proofs.BitLemmas.{Covers, covers_self, covers_then, no_bit, covers_more, to_bits}
use Rattle.ep_object.proofs.OwnEndLemmas.{Shows, close_stays}
use Rattle.ep_machine.specs.Files.{Files, Place, place_of, raised_at, with_object, object_at}
use Rattle.ep_machine.specs.Spread.{raised_of}
use Rattle.ep_law.proofs.EndLemmas.{Own, object_there, set_object}
use Rattle.ep_law.proofs.RaiseLemmas.{raised_first, raised_last, raised_there}
use Rattle.std.proofs.lemmas.List.{length-set, get_or-set_same}
use Rattle.ep_facts.proofs.NatFacts.{same_or_not, shift}
use Rattle.ep_law.proofs.DeathLemmas.{get_other, has_here}
use Rattle.std.specs.Int.{bit_at}
use Rattle.ep_base.specs.declared.object.End.{End}
use Rattle.ep_base.specs.declared.object.End.TheVariants.{First, Second}
use Rattle.ep_base.specs.declared.object.Raised.{Raised}
use Rattle.ep_machine.specs.Deaths.{kept_object}
use Rattle.ep_machine.specs.Bits.{at_end, IN, raises}
use Rattle.ep_object.proofs.KindLemmas.{close_has, close_keeps_plain, close_keeps_instance, plain_is}
use Rattle.ep_machine.specs.Connections.{let_go, let_all_go, without_abandoned, abandoned, accepted, without_pending, join}
use Rattle.ep_machine.specs.Listening.{Listener}
use Rattle.std.proofs.lemmas.Bool.{false≢true}
use Rattle.ep_machine.specs.Unconnected.{Idle}
use Rattle.ep_machine.specs.Lists.{numbered}
use Rattle.std.proofs.Common.{arith, ◌+◌, suc}
use Rattle.ep_machine.specs.Sockets.{is_tcp}
use Rattle.ep_machine.specs.Connections.{with_pending, first_listening, listening_at}
use Rattle.ep_base.specs.declared.socket.Name.{Name}
use Rattle.ep_law.specs.Laws.{has_instance}
use Rattle.ep_law.proofs.InstanceLemmas.{Narrows, made_below, AreMade}
use Rattle.std.proofs.Math.Nat.{add-zero, zero-add}
use Rattle.ep_object.proofs.ConnectionLemmas.{waiting_plain, waiting_first, hears, accepted_keeps, plain_by_kind, instance_by_kind, accepted_kind, accepted_shows}
use Rattle.ep_object.specs.Connecting.{IsListener, IsIdle, connection}
use Rattle.ep_object.proofs.ConnectionLemmas.{accepted_has, without_has, without_kind, without_shows, listener_plain, waiting_is_apart, idle_first, connection_has}
use Rattle.ep_object.proofs.ConnectionLemmas.{idle_plain, idle_instance, connection_shows, idle_is_apart, listener_first, pending_has, pending_kind, pending_begins}
use Rattle.ep_object.proofs.ConnectionLemmas.{pending_stays, by_test}

-- y shows at an end of description d what x showed there and what is raised there, and no less unless d is called
pub record Like (called : ℕ → Bool) (now d : ℕ) (x y : Object) (e : End) (raised : ℕ) : Type 0 where
  pub has : object_has x e ≡ true → object_has y e ≡ true
  pub plain : is_plain y ≡ is_plain x
  pub instance : is_instance y ≡ is_instance x
  pub covers : Covers (object_present x e now) (object_present y e now) raised
  pub stays : called d ≡ false → Shows x y e now now

pub like_self : (called : ℕ → Bool) (now d : ℕ) (x : Object) (e : End) (raised : ℕ) → Like called now d x x e raised
like_self called now d x e raised = record { has = λ h. h; plain = refl; instance = refl; covers = covers_self _ _; stays = λ h. covers_self _ 0 }

-- Each description is of an object that was made, and has an end of its own that is there.
pub record HaveEnds (f : Files) : Type 0 where
  pub made : AreMade f
  pub apart : (d e : ℕ) (p : Place) → place_of f d ≡ Some p → place_of f e ≡ Some p → d ≡ e
  pub ends : (d : ℕ) (p : Place) → place_of f d ≡ Some p → object_has (object_there f p.object) p.side ≡ true

pub have_ends : (f : Files) → Own f → HaveEnds f
have_ends f own = record { made = own.made; apart = own.apart; ends = own.ends }

pub ends_same : (f g : Files) → g.descriptions ≡ f.descriptions → g.objects ≡ f.objects → HaveEnds f → HaveEnds g
ends_same f g places objects h =
    let t : Files = record g { descriptions = f.descriptions; objects = f.objects } in
    let same : t ≡ g = λ i. record g { descriptions = sym places i; objects = sym objects i } in
    subst HaveEnds same (record { made = h.made; apart = h.apart; ends = h.ends })

-- From f to g descriptions and tables stay, and what is described gave way to its like.
pub record Replaces (called : ℕ → Bool) (now : ℕ) (f g : Files) (raised : List (ℕ × ℕ)) : Type 0 where
  pub places : g.descriptions ≡ f.descriptions
  pub tables : g.tables ≡ f.tables
  pub longer : length g.objects ≡ length f.objects
  pub first : is_plain (object_there f 0) ≡ true → is_plain (object_there g 0) ≡ true
  pub backed : (d : ℕ) (p : Place) → place_of f d ≡ Some p → is_some (get_or f.objects p.object None) ≡ true → is_some (get_or g.objects p.object None) ≡ true
  pub like : (d : ℕ) (p : Place) → place_of f d ≡ Some p → Like called now d (object_there f p.object) (object_there g p.object) p.side (raised_of raised d)

pub replaces_self : (called : ℕ → Bool) (now : ℕ) (f : Files) (raised : List (ℕ × ℕ)) → Replaces called now f f raised
replaces_self called now f raised = record {
  places = refl;
  tables = refl;
  longer = refl;
  first = λ h. h;
  backed = λ d p here h. h;
  like = λ d p here. like_self called now d (object_there f p.object) p.side (raised_of raised d);
}

module _ (called : ℕ → Bool) (now : ℕ) (f g : Files) (raised : List (ℕ × ℕ)) (r : Replaces called now f g raised) where
  -- a description is where it was
  pub still : (d : ℕ) (p : Place) → place_of f d ≡ Some p → place_of g d ≡ Some p
  still d p here = ap (λ (ds : List (Option Place)). get_or ds d None) r.places ∙ here

  pub was : (d : ℕ) (p : Place) → place_of g d ≡ Some p → place_of f d ≡ Some p
  was d p here = ap (λ (ds : List (Option Place)). get_or ds d None) (sym r.places) ∙ here

  pub ends_replaced : HaveEnds f → HaveEnds g
  ends_replaced own = record {
    made = λ d p e. let lt = own.made d p (was d p e) in let same = r.longer in omega (arith, lt, same);
    apart = λ d e p a c. own.apart d e p (was d p a) (was e p c);
    ends = λ d p e. (r.like d p (was d p e)).has (own.ends d p (was d p e));
  }

  pub own_replaced : Own f → Own g
  own_replaced own =
      let kept = ends_replaced (have_ends f own) in
      record {
        made = kept.made;
        some = let some = own.some in let same = r.longer in omega (arith, some, same);
        first = r.first own.first;
        apart = kept.apart;
        ends = kept.ends;
      }

  pub replaces_then : (h : Files) (more : List (ℕ × ℕ)) → Replaces called now g h more → Replaces called now f h (raised ++ more)
  replaces_then h more n = record {
    places = n.places ∙ r.places;
    tables = n.tables ∙ r.tables;
    longer = n.longer ∙ r.longer;
    first = λ i. n.first (r.first i);
    backed = λ d p here i. n.backed d p (still d p here) (r.backed d p here i);
    like = λ d p here.
        let one = r.like d p here in
        let two = n.like d p (still d p here) in
        let before = object_present (object_there f p.object) p.side now in
        let between = object_present (object_there g p.object) p.side now in
        let after = object_present (object_there h p.object) p.side now in
        record {
          has = λ i. two.has (one.has i);
          plain = two.plain ∙ one.plain;
          instance = two.instance ∙ one.instance;
          covers = covers_then before between after (raised_of raised d) (raised_of more d) (raised_of (raised ++ more) d) (raised_first raised more d) (raised_last raised more d) one.covers two.covers;
          stays = λ i. covers_then after between before 0 0 0 (λ j at. at) (λ j at. at) (two.stays i) (one.stays i);
        };
  }

  -- what is an instance is one, and nothing comes to be one
  same_instance : (d : ℕ) (o : Option Place) → place_of f d ≡ o → has_instance g d ≡ has_instance f d
  same_instance d None is =
      ap (λ (q : Option Place). is_instance (unwrap_or (object_at g q) plain)) (ap (λ (ds : List (Option Place)). get_or ds d None) r.places ∙ is)
      ∙ sym (ap (λ (q : Option Place). is_instance (unwrap_or (object_at f q) plain)) is)
  same_instance d (Some p) is =
      ap (λ (q : Option Place). is_instance (unwrap_or (object_at g q) plain)) (still d p is)
      ∙ ((r.like d p is).instance ∙ sym (ap (λ (q : Option Place). is_instance (unwrap_or (object_at f q) plain)) is))

  pub narrows_replaced : Own f → Narrows f g
  narrows_replaced own =
      let places = ap length r.places in
      let longer = r.longer in
      record {
        longer = omega (arith, places);
        made = λ d p e. let lt = own.made d p (was d p e) in omega (arith, lt, longer);
        instances = λ d lt h. sym (same_instance d (place_of f d) refl) ∙ h;
        dead = λ d lt h. ap (λ (ds : List (Option Place)). is_some (get_or ds d None)) r.places ∙ h;
        stays = λ d h l. same_instance d (place_of f d) refl ∙ h;
        first = λ h. let some = h.0 in (omega (arith, some, longer), ap is_instance (plain_is (object_there g 0) (r.first own.first)));
      }

-- One object in the place of another.
module _ (called : ℕ → Bool) (now : ℕ) (f : Files) (own : HaveEnds f) (k : ℕ) (o : Option Object) (raised : List (ℕ × ℕ)) where
  abbrev g : Files
  g = record f { objects = set f.objects k o }

  pub replaces_one : (is_plain (object_there f k) ≡ true → is_plain (unwrap_or o plain) ≡ true) → ((d : ℕ) (p : Place) → place_of f d ≡ Some p → p.object ≡ k → is_some o ≡ true)
      → ((d : ℕ) (p : Place) → place_of f d ≡ Some p → p.object ≡ k → Like called now d (object_there f k) (unwrap_or o plain) p.side (raised_of raised d)) → Replaces called now f g raised
  replaces_one stays kept like = record {
    places = refl;
    tables = refl;
    longer = length-set f.objects k o;
    first = λ h. set_object (λ y. is_plain y ≡ true) f.objects k 0 o (λ e. stays (subst (λ (j : ℕ). is_plain (object_there f j) ≡ true) e h)) h;
    backed = λ d p here h. elim (same_or_not p.object k) [
      | inl at ↦
          let lt : k < length f.objects = subst (λ (j : ℕ). j < length f.objects) at (own.made d p here) in
          subst (λ (j : ℕ). is_some (get_or (set f.objects k o) j None) ≡ true) (sym at) (ap is_some (get_or-set_same f.objects k o None lt) ∙ kept d p here at)
      | inr other ↦ ap is_some (get_other f.objects k p.object o (λ e. other (sym e))) ∙ h
    ];
    like = λ d p here. elim (same_or_not p.object k) [
      | inl at ↦
          let lt : k < length f.objects = subst (λ (j : ℕ). j < length f.objects) at (own.made d p here) in
          let there : unwrap_or o plain ≡ object_there g p.object = sym (ap (object_there g) at ∙ ap (λ (y : Option Object). unwrap_or y plain) (get_or-set_same f.objects k o None lt)) in
          let old : object_there f k ≡ object_there f p.object = ap (object_there f) (sym at) in
          subst (λ (x : Object). Like called now d x (object_there g p.object) p.side (raised_of raised d)) old
          (subst (λ (y : Object). Like called now d (object_there f k) y p.side (raised_of raised d)) there (like d p here at))
      | inr other ↦
          let same : object_there f p.object ≡ object_there g p.object = ap (λ (y : Option Object). unwrap_or y plain) (sym (get_other f.objects k p.object o (λ e. other (sym e)))) in
          subst (λ (y : Object). Like called now d (object_there f p.object) y p.side (raised_of raised d)) same (like_self called now d (object_there f p.object) p.side (raised_of raised d))
    ];
  }

no_bits : (n i : ℕ) → bit_at 0 i ≡ 1 → bit_at n i ≡ 1
no_bits n i h = absurd (no_bit i h)

-- It is let go.
module _ (close : CloseLaw) (called : ℕ → Bool) (now : ℕ) where
  module _ (f : Files) (own : HaveEnds f) (k : ℕ) (waits : is_waiting (object_there f k) ≡ true) where
    abbrev x : Object
    x = object_there f k

    abbrev closed : Object × Raised
    closed = close_end x Second

    kept : (d : ℕ) (p : Place) → place_of f d ≡ Some p → p.object ≡ k → kept_object f k closed.0 ≡ Some closed.0
    kept d p here at = ap (λ (b : Bool). if b || is_waiting closed.0 then Some closed.0 else None) (has_here k 0 d f.descriptions p here at)

    first_there : (d : ℕ) (p : Place) → place_of f d ≡ Some p → p.object ≡ k → p.side ≡ First
    first_there d p here at = waiting_first x p.side waits (subst (λ (j : ℕ). object_has (object_there f j) p.side ≡ true) at (own.ends d p here))

    first_apart : First ≢ Second
    first_apart e = cc

    raises_first : (d : ℕ) (p : Place) → place_of f d ≡ Some p → p.object ≡ k → (i : ℕ) → bit_at (at_end closed.1 First) i ≡ 1 → bit_at (raised_of (raised_at f k closed.1) d) i ≡ 1
    raises_first d p here at i h = raised_there f k closed.1 d p i here at (subst (λ (e : End). bit_at (at_end closed.1 e) i ≡ 1) (sym (first_there d p here at)) h)

    like_first : (d : ℕ) (p : Place) → place_of f d ≡ Some p → p.object ≡ k → Like called now d x closed.0 First (raised_of (raised_at f k closed.1) d)
    like_first d p here at =
        let has : object_has x First ≡ true = subst (λ (e : End). object_has x e ≡ true) (first_there d p here at) (subst (λ (j : ℕ). object_has (object_there f j) p.side ≡ true) at (own.ends d p here)) in
        record {
          has = λ h. close_has x Second First first_apart h;
          plain = close_keeps_plain x Second;
          instance = close_keeps_instance x Second;
          covers = covers_more _ _ (at_end closed.1 First) _ (raises_first d p here at) (to_bits _ _ _ (close x Second now First has (close_has x Second First first_apart has)));
          stays = λ h. close_stays x Second First now;
        }

    waiting_goes : Replaces called now f (record f { objects = set f.objects k (kept_object f k closed.0) }) (raised_at f k closed.1)
    waiting_goes =
        replaces_one called now f own k (kept_object f k closed.0) (raised_at f k closed.1) (λ h. absurd (false≢true (sym (waiting_plain x waits) ∙ h)))
        (λ d p here at. ap is_some (kept d p here at))
        (λ d p here at.
        subst (λ (o : Option Object). Like called now d x (unwrap_or o plain) p.side (raised_of (raised_at f k closed.1) d)) (sym (kept d p here at))
        (subst (λ (e : End). Like called now d x closed.0 e (raised_of (raised_at f k closed.1) d)) (sym (first_there d p here at)) (like_first d p here at)))

  -- from files that became f, with what that raised
  goes : (f0 : Files) (f : Files) (raised : List (ℕ × ℕ)) (k : ℕ) → HaveEnds f → Replaces called now f0 f raised → Replaces called now f0 (let_go (f, raised) k).0 (let_go (f, raised) k).1
  goes f0 f raised k own r =
      let y = close_end (object_there f k) Second in
      let left : Files = record f { objects = set f.objects k (kept_object f k y.0) } in
      by_test (λ (at : Files × List (ℕ × ℕ)). Replaces called now f0 at.0 at.1) (is_waiting (object_there f k)) (left, raised ++ raised_at f k y.1) (f, raised)
      (λ waits. replaces_then called now f0 f raised r left (raised_at f k y.1) (waiting_goes f own k waits)) (λ waits. r)

  pub all_go : (f0 : Files) (f : Files) (raised : List (ℕ × ℕ)) (ks : List ℕ) → HaveEnds f0 → Replaces called now f0 f raised → Replaces called now f0 (let_all_go (f, raised) ks).0 (let_all_go (f, raised) ks).1
  all_go f0 f raised [] own r = r
  all_go f0 f raised (k ∷ ks) own r =
      let next = let_go (f, raised) k in
      all_go f0 next.0 next.1 ks own (goes f0 f raised k (ends_replaced called now f0 f raised r own) r)

  pub abandoned_go : (f : Files) → HaveEnds f → Replaces called now f (without_abandoned f).0 (without_abandoned f).1
  abandoned_go f own = all_go f f [] (abandoned f) own (replaces_self called now f [])

-- What shows itself at the first end alone has one description at most.
pub one_at : (f : Files) (own : HaveEnds f) (m c : ℕ) (q : Place) → ((e : End) → object_has (object_there f m) e ≡ true → e ≡ First) → place_of f c ≡ Some q → q.object ≡ m → (d : ℕ) (p : Place) → place_of f d ≡ Some p → p.object ≡ m → d ≡ c
one_at f own m c q alone there at d p here also =
    let side : (e : ℕ) (r : Place) → place_of f e ≡ Some r → r.object ≡ m → r.side ≡ First = λ e r i j. alone r.side (subst (λ (n : ℕ). object_has (object_there f n) r.side ≡ true) j (own.ends e r i)) in
    let same : p ≡ q = λ i. record { object = (also ∙ sym at) i; side = (side d p here also ∙ sym (side c q there at)) i } in
    own.apart d c q (here ∙ ap Some same) there

-- Who listens at a name is a listener.
first_listens : (name : Name) (whole : List (Option Object)) (n : ℕ) (os : List (Option Object)) → ((i : ℕ) → get_or whole (n + i) None ≡ get_or os i None)
    → (m : ℕ) → first_listening name (numbered n os) ≡ Some m → (l : Listener) × IsListener (unwrap_or (get_or whole m None) plain) l
first_listens name whole n [] same m h = cc
first_listens name whole n (None ∷ os) same m h = first_listens name whole (n + 1) os (λ i. ap (λ (j : ℕ). get_or whole j None) (shift n i) ∙ same (suc i)) m h
first_listens name whole n (Some x ∷ os) same m h =
    by_test (λ (o : Option ℕ). o ≡ Some m → (l : Listener) × IsListener (unwrap_or (get_or whole m None) plain) l) (listens_at name (Some x)) (Some n) (first_listening name (numbered (n + 1) os))
    (λ listens e.
    let at : n ≡ m = cc in
    let found = hears name x listens in
    let there : get_or whole n None ≡ Some x = ap (λ (j : ℕ). get_or whole j None) (sym (add-zero n)) ∙ same 0 in
    (found.0, ap (λ (j : ℕ). unwrap_or (get_or whole j None) plain) (sym at) ∙ (ap (λ (o : Option Object). unwrap_or o plain) there ∙ found.1)))
    (λ other e. first_listens name whole (n + 1) os (λ i. ap (λ (j : ℕ). get_or whole j None) (shift n i) ∙ same (suc i)) m e) h

pub found_listens : (f : Files) (name : Name) (m : ℕ) → listening_at f name ≡ Some m → (l : Listener) × IsListener (object_there f m) l
found_listens f name m h = first_listens name f.objects 0 f.objects (λ i. ap (λ (j : ℕ). get_or f.objects j None) (zero-add i)) m h

accepted_like : (called : ℕ → Bool) (now d : ℕ) (x : Object) (e : End) (raised : ℕ) → Like called now d x (accepted x) e raised
accepted_like called now d x e raised = record {
  has = accepted_keeps x e;
  plain = plain_by_kind x (accepted x) (accepted_kind x);
  instance = instance_by_kind x (accepted x) (accepted_kind x);
  covers = subst (λ (n : ℕ). Covers (object_present x e now) n raised) (sym (accepted_shows x e now)) (covers_self _ _);
  stays = λ uncalled. subst (λ (n : ℕ). Covers n (object_present x e now) 0) (sym (accepted_shows x e now)) (covers_self _ 0);
}

-- It is accepted: its second end is there, and can be described.
module _ (called : ℕ → Bool) (now : ℕ) (f : Files) (own : HaveEnds f) (m k : ℕ) (l : Listener) (is : IsListener (object_there f m) l) (waits : is_waiting (object_there f k) ≡ true)
    (through : (d : ℕ) (p : Place) → place_of f d ≡ Some p → p.object ≡ m → called d ≡ true) where
  abbrev left : Files
  left = with_object f m (without_pending k (object_there f m))

  abbrev made : Files
  made = with_object left k (accepted (object_there f k))

  like_left : (d : ℕ) (p : Place) → place_of f d ≡ Some p → p.object ≡ m → Like called now d (object_there f m) (without_pending k (object_there f m)) p.side 0
  like_left d p here at =
      let x = object_there f m in
      record {
        has = λ h. without_has k x p.side ∙ h;
        plain = plain_by_kind x (without_pending k x) (without_kind k x);
        instance = instance_by_kind x (without_pending k x) (without_kind k x);
        covers = without_shows k x p.side now;
        stays = λ uncalled. absurd (false≢true (sym uncalled ∙ through d p here at));
      }

  left_replaces : Replaces called now f left []
  left_replaces = replaces_one called now f own m (Some (without_pending k (object_there f m))) [] (λ h. absurd (false≢true (sym (listener_plain (object_there f m) l is) ∙ h))) (λ d p here at. refl) like_left

  other : m ≢ k
  other e = false≢true (sym (waiting_is_apart (object_there f m) l is) ∙ subst (λ (n : ℕ). is_waiting (object_there f n) ≡ true) (sym e) waits)

  there : object_there left k ≡ object_there f k
  there = ap (λ (o : Option Object). unwrap_or o plain) (get_other f.objects m k (Some (without_pending k (object_there f m))) other)

  pub accept_replaces : Replaces called now f made []
  accept_replaces =
      replaces_then called now f left [] left_replaces made []
      (replaces_one called now left (ends_replaced called now f left [] left_replaces own) k (Some (accepted (object_there f k))) []
      (λ h. absurd (false≢true (sym (ap is_plain there ∙ waiting_plain (object_there f k) waits) ∙ h))) (λ d p here at. refl)
      (λ d p here at. subst (λ (y : Object). Like called now d y (accepted (object_there f k)) p.side 0) (sym there) (accepted_like called now d (object_there f k) p.side 0)))

  pub accept_below : k < length made.objects
  accept_below =
      let lt = made_below f.objects k (waiting_plain (object_there f k) waits) in
      let one = length-set f.objects m (Some (without_pending k (object_there f m))) in
      let two = length-set left.objects k (Some (accepted (object_there f k))) in
      omega (arith, lt, one, two)

  accepted_there : get_or made.objects k None ≡ Some (accepted (object_there f k))
  accepted_there =
      let lt = made_below f.objects k (waiting_plain (object_there f k) waits) in
      let one = length-set f.objects m (Some (without_pending k (object_there f m))) in
      get_or-set_same left.objects k (Some (accepted (object_there f k))) None (omega (arith, lt, one))

  pub accept_backed : is_some (get_or made.objects k None) ≡ true
  accept_backed = ap is_some accepted_there

  pub accept_has : object_has (object_there made k) Second ≡ true
  accept_has = ap (λ (o : Option Object). object_has (unwrap_or o plain) Second) accepted_there ∙ accepted_has (object_there f k) waits

  pub accept_free : (d : ℕ) (q : Place) → place_of made d ≡ Some q → q.object ≡ k → q.side ≡ Second → ⊥
  accept_free d q here at side =
      let has = subst (λ (j : ℕ). object_has (object_there f j) q.side ≡ true) at (own.ends d q here) in
      first_not_second (sym (waiting_first (object_there f k) q.side waits has) ∙ side) where
        first_not_second : First ≡ Second → ⊥
        first_not_second e = cc

-- An idle socket of Unix joins who listens.
module _ (called : ℕ → Bool) (now : ℕ) (capacity : ℕ) (f : Files) (own : HaveEnds f) (k m : ℕ) (x : Idle) (l : Listener) (name : Name) (is_idle : IsIdle (object_there f k) x) (is : IsListener (object_there f m) l) (unix : is_tcp x.family ≡ false)
    (through : (d : ℕ) (p : Place) → place_of f d ≡ Some p → p.object ≡ k → called d ≡ true) where
  abbrev made_pair : Object
  made_pair = connection capacity x name

  abbrev connected : Files
  connected = with_object f k made_pair

  abbrev joins : Files × List (ℕ × ℕ)
  joins = join capacity f k x name m

  idle_side : (d : ℕ) (p : Place) → place_of f d ≡ Some p → p.object ≡ k → p.side ≡ First
  idle_side d p here at = idle_first (object_there f k) x is_idle p.side (subst (λ (j : ℕ). object_has (object_there f j) p.side ≡ true) at (own.ends d p here))

  begins : (d : ℕ) (e : End) → e ≡ First → called d ≡ true → Like called now d (object_there f k) made_pair e 0
  begins d e at is_called =
      let y = object_there f k in
      subst (λ (s : End). Like called now d y made_pair s 0) (sym at)
      (record {
        has = λ h. connection_has capacity x name;
        plain = sym (idle_plain y x is_idle);
        instance = sym (idle_instance y x is_idle);
        covers = connection_shows capacity y x name now is_idle unix;
        stays = λ uncalled. absurd (false≢true (sym uncalled ∙ is_called));
      })

  connected_replaces : Replaces called now f connected []
  connected_replaces =
      replaces_one called now f own k (Some made_pair) [] (λ h. absurd (false≢true (sym (idle_plain (object_there f k) x is_idle) ∙ h))) (λ d p here at. refl)
      (λ d p here at. begins d p.side (idle_side d p here at) (through d p here at))

  idle_apart : k ≢ m
  idle_apart e = idle_is_apart (object_there f k) (object_there f m) x l is_idle is (ap (object_there f) e)

  still_there : object_there connected m ≡ object_there f m
  still_there = ap (λ (o : Option Object). unwrap_or o plain) (get_other f.objects k m (Some made_pair) idle_apart)

  listens : IsListener (object_there connected m) l
  listens = still_there ∙ is

  own_connected : HaveEnds connected
  own_connected = ends_replaced called now f connected [] connected_replaces own

  waits_there : (d : ℕ) (p : Place) → place_of connected d ≡ Some p → p.object ≡ m → Like called now d (object_there connected m) (with_pending k (object_there connected m)) p.side (raised_of joins.1 d)
  waits_there d p here at =
      let y = object_there connected m in
      let side = listener_first y l listens p.side (subst (λ (j : ℕ). object_has (object_there connected j) p.side ≡ true) at (own_connected.ends d p here)) in
      let told : (i : ℕ) → bit_at IN i ≡ 1 → bit_at (raised_of joins.1 d) i ≡ 1 = λ i h.
      raised_there joins.0 m (raises IN 0) d p i here at (subst (λ (e : End). bit_at (at_end (raises IN 0) e) i ≡ 1) (sym side) h) in
      record {
        has = λ h. pending_has k y p.side ∙ h;
        plain = plain_by_kind y (with_pending k y) (pending_kind k y);
        instance = instance_by_kind y (with_pending k y) (pending_kind k y);
        covers = covers_more _ _ IN _ told (pending_begins k y l p.side now listens);
        stays = λ h. pending_stays k y p.side now;
      }

  pub join_replaces : Replaces called now f joins.0 joins.1
  join_replaces =
      replaces_then called now f connected [] connected_replaces joins.0 joins.1
      (replaces_one called now connected own_connected m (Some (with_pending k (object_there f m))) joins.1
      (λ h. absurd (false≢true (sym (listener_plain (object_there connected m) l listens) ∙ h))) (λ d p here at. refl)
      (λ d p here at. subst (λ (y : Object). Like called now d (object_there connected m) (with_pending k y) p.side (raised_of joins.1 d)) still_there (waits_there d p here at)))

-- What the runs so far are, as one comes after another, and what they are in the end.
use Rattle.std.proofs.Common.{◌≡◌, ◌++◌, ◌∷◌, [], List, ℕ, refl, sym, ap, ◌∙◌, subst, ◌<◌, ◌≤◌, ◌+◌, length, arith, zip, ◌⊎◌, inl, inr}
use Rattle.std.specs.Prelude.{Contains, AllPairs}
use Rattle.std.specs.List.{AllByRecursion}
use Rattle.std.proofs.lemmas.List.{append_assoc}
use Rattle.std.proofs.lemmas.List.Elements.{Contains-append_left, Contains-get_or, Contains-push, Contains-push_cases}
use Rattle.std.proofs.lemmas.List.Quantifiers.{all_pairs_push}
use Rattle.std.proofs.Math.Nat.{eq-or-lt_of_le}
use Rattle.ep_paths.specs.declared.choice.Choice.{Choice}
use Rattle.ep_paths.specs.Paths.{Comes, Follows, Goes, GoesOn, IsBefore, IsEveryRun, IsLast, Taken}
use Rattle.ep_paths.proofs.RunLemmas.{AllFirst, AllLast, Cuts, Earlier, There, Later, Turns, all_first, all_last, choices, cuts, gifts, turned, zip_choices, zip_gifts}

-- the run goes a sooner way behind these choices
pub record IsSooner {A : Type 0} (cur before : List (Taken A)) (way ways : ℕ) : Type 0 where
  pub taken : Taken A
  pub behind : List (Taken A)
  pub is : cur ≡ before ++ taken ∷ behind
  pub ways_is : taken.0.ways ≡ ways
  pub sooner : taken.0.way < way

-- the runs up to `cur`: each way of each choice was gone, or is still to come behind `cur`
pub record Sofar {A : Type 0} (found : List (List (Taken A))) (cur : List (Taken A)) : Type 0 where
  pub has : Contains found cur
  pub pairs : AllPairs IsBefore found
  pub upto : (xs : List (Taken A)) → Contains found xs → (xs ≡ cur) ⊎ IsBefore xs cur
  pub tried : (before : List (Taken A)) (c : Taken A) (behind : List (Taken A)) → Contains found (before ++ c ∷ behind)
      → (way : ℕ) → way < c.0.ways → Goes found before way c.0.ways ⊎ IsSooner cur before way c.0.ways

-- of choices that all went their last way, each did; of those that went their first way too
last_at : {A : Type 0} (before : List (Taken A)) (c : Taken A) (behind xs : List (Taken A)) → xs ≡ before ++ c ∷ behind → AllLast xs → c.0.ways ≤ c.0.way + 1
last_at [] c behind [] e last = absurd (cc)
last_at [] c behind (x ∷ xs) e last =
    let same : x ≡ c = cc in
    subst (λ (z : Taken _). z.0.ways ≤ z.0.way + 1) same last.0
last_at (b ∷ before) c behind [] e last = absurd (cc)
last_at (b ∷ before) c behind (x ∷ xs) e last = last_at before c behind xs (cc) last.1

first_at : {A : Type 0} (before : List (Taken A)) (c : Taken A) (behind xs : List (Taken A)) → xs ≡ before ++ c ∷ behind → AllFirst xs → c.0.way ≡ 0
first_at [] c behind [] e first = absurd (cc)
first_at [] c behind (x ∷ xs) e first =
    let same : x ≡ c = cc in
    subst (λ (z : Taken _). z.0.way ≡ 0) same first.0
first_at (b ∷ before) c behind [] e first = absurd (cc)
first_at (b ∷ before) c behind (x ∷ xs) e first = first_at before c behind xs (cc) first.1

-- ---- one before another

before_by : {A : Type 0} (xs ys zs : List (Taken A)) (p : IsBefore xs ys) (q : IsBefore ys zs)
    → Cuts p.shared p.y p.behind_y q.shared q.x q.behind_x → IsBefore xs zs
before_by xs ys zs p q (Earlier i) = record {
  shared = p.shared;
  x = p.x;
  y = p.y;
  behind_x = p.behind_x;
  behind_y = i.between ++ q.y ∷ q.behind_y;
  xs_is = p.xs_is;
  ys_is = q.ys_is ∙ (ap (λ s. s ++ q.y ∷ q.behind_y) i.longer ∙ append_assoc p.shared (p.y ∷ i.between) (q.y ∷ q.behind_y));
  ways = p.ways;
  later = p.later;
}
before_by xs ys zs p q (There i) = record {
  shared = p.shared;
  x = p.x;
  y = q.y;
  behind_x = p.behind_x;
  behind_y = q.behind_y;
  xs_is = p.xs_is;
  ys_is = q.ys_is ∙ ap (λ s. s ++ q.y ∷ q.behind_y) i.front;
  ways = q.ways ∙ (ap (λ t. t.0.ways) i.item ∙ p.ways);
  later = omega (arith, p.later, q.later, ap (λ t. t.0.way) i.item);
}
before_by xs ys zs p q (Later i) = record {
  shared = q.shared;
  x = q.x;
  y = q.y;
  behind_x = i.between ++ p.x ∷ p.behind_x;
  behind_y = q.behind_y;
  xs_is = p.xs_is ∙ (ap (λ s. s ++ p.x ∷ p.behind_x) i.longer ∙ append_assoc q.shared (q.x ∷ i.between) (p.x ∷ p.behind_x));
  ys_is = q.ys_is;
  ways = q.ways;
  later = q.later;
}

before_again : {A : Type 0} (xs ys zs : List (Taken A)) → IsBefore xs ys → IsBefore ys zs → IsBefore xs zs
before_again xs ys zs p q = before_by xs ys zs p q (cuts p.shared p.y p.behind_y q.shared q.x q.behind_x (sym p.ys_is ∙ q.xs_is))

turn_is_before : {A : Type 0} (cur new : List (Taken A)) → Turns cur new → IsBefore cur new
turn_is_before cur new t = record {
  shared = t.kept;
  x = t.from;
  y = t.to;
  behind_x = t.gone;
  behind_y = t.more;
  xs_is = t.was;
  ys_is = t.is;
  ways = t.next.ways;
  later = omega (arith, t.next.way);
}

-- ---- one run more

grown : {A : Type 0} (found : List (List (Taken A))) (new before : List (Taken A)) (way ways : ℕ) → Goes found before way ways → Goes (found ++ new ∷ []) before way ways
grown found new before way ways g = record {
  taken = g.taken;
  behind = g.behind;
  run = Contains-append_left found (new ∷ []) (before ++ g.taken ∷ g.behind) g.run;
  way_is = g.way_is;
  ways_is = g.ways_is;
}

-- the new run itself goes its way
itself : {A : Type 0} (found : List (List (Taken A))) (new before : List (Taken A)) (c : Taken A) (behind : List (Taken A)) (way ways : ℕ)
    → new ≡ before ++ c ∷ behind → c.0.way ≡ way → c.0.ways ≡ ways → Goes (found ++ new ∷ []) before way ways
itself found new before c behind way ways is way_is ways_is = record {
  taken = c;
  behind = behind;
  run = subst (Contains (found ++ new ∷ [])) is (Contains-push found new);
  way_is = way_is;
  ways_is = ways_is;
}

-- it goes this way, or a sooner one
by_way : {A : Type 0} (found : List (List (Taken A))) (new before : List (Taken A)) (c : Taken A) (behind : List (Taken A)) (way ways : ℕ)
    → new ≡ before ++ c ∷ behind → c.0.ways ≡ ways → c.0.way ≤ way → Goes (found ++ new ∷ []) before way ways ⊎ IsSooner new before way ways
by_way found new before c behind way ways is ways_is below =
    elim (eq-or-lt_of_le below) [
      | inl e ↦ inl (itself found new before c behind way ways is e ways_is)
      | inr lt ↦ inr (record { taken = c; behind = behind; is = is; ways_is = ways_is; sooner = lt })
    ]

-- a way behind choices that the last run made, too
on_from : {A : Type 0} (found : List (List (Taken A))) (cur new : List (Taken A)) (t : Turns cur new) (before : List (Taken A)) (way ways : ℕ) → way < ways
    → (s : IsSooner cur before way ways) → Cuts before s.taken s.behind t.kept t.from t.gone → Goes (found ++ new ∷ []) before way ways ⊎ IsSooner new before way ways
on_from found cur new t before way ways lt s (Earlier i) = inr (record {
  taken = s.taken;
  behind = i.between ++ t.to ∷ t.more;
  ways_is = s.ways_is;
  sooner = s.sooner;
  is = t.is ∙ (ap (λ z. z ++ t.to ∷ t.more) i.longer ∙ append_assoc before (s.taken ∷ i.between) (t.to ∷ t.more));
})
on_from found cur new t before way ways lt s (There i) =
    by_way found new before t.to t.more way ways (t.is ∙ ap (λ z. z ++ t.to ∷ t.more) i.front)
    (t.next.ways ∙ (ap (λ z. z.0.ways) i.item ∙ s.ways_is))
    (omega (arith, t.next.way, ap (λ z. z.0.way) i.item, s.sooner))
on_from found cur new t before way ways lt s (Later i) =
    let last = last_at i.between s.taken s.behind t.gone i.behind t.last in
    absurd (omega (arith, last, s.sooner, s.ways_is, lt))

-- a way behind choices of a run that was made before
goes_on : {A : Type 0} (found : List (List (Taken A))) (cur new : List (Taken A)) (t : Turns cur new) → Sofar found cur
    → (before : List (Taken A)) (c : Taken A) (behind : List (Taken A)) → Contains found (before ++ c ∷ behind) → (way : ℕ) → way < c.0.ways
    → Goes (found ++ new ∷ []) before way c.0.ways ⊎ IsSooner new before way c.0.ways
goes_on found cur new t sofar before c behind has way lt =
    elim (sofar.tried before c behind has way lt) [
      | inl g ↦ inl (grown found new before way c.0.ways g)
      | inr s ↦ on_from found cur new t before way c.0.ways lt s (cuts before s.taken s.behind t.kept t.from t.gone (sym s.is ∙ t.was))
    ]

-- a way behind choices of the new run
of_new : {A : Type 0} (found : List (List (Taken A))) (cur new : List (Taken A)) (t : Turns cur new) → Sofar found cur
    → (before : List (Taken A)) (c : Taken A) (behind : List (Taken A)) → new ≡ before ++ c ∷ behind → (way : ℕ) → way < c.0.ways
    → Cuts before c behind t.kept t.to t.more → Goes (found ++ new ∷ []) before way c.0.ways ⊎ IsSooner new before way c.0.ways
of_new found cur new t sofar before c behind is way lt (Earlier i) =
    let was : cur ≡ before ++ c ∷ (i.between ++ t.from ∷ t.gone) =
    t.was ∙ (ap (λ z. z ++ t.from ∷ t.gone) i.longer ∙ append_assoc before (c ∷ i.between) (t.from ∷ t.gone)) in
    goes_on found cur new t sofar before c (i.between ++ t.from ∷ t.gone) (subst (Contains found) was sofar.has) way lt
of_new {A} found cur new t sofar before c behind is way lt (There i) =
    let was : cur ≡ before ++ t.from ∷ t.gone = t.was ∙ ap (λ z. z ++ t.from ∷ t.gone) i.front in
    let ways : t.from.0.ways ≡ c.0.ways = sym t.next.ways ∙ ap (λ (z : Taken A). z.0.ways) i.item in
    subst (λ n. Goes (found ++ new ∷ []) before way n ⊎ IsSooner new before way n) ways
    (goes_on found cur new t sofar before t.from t.gone (subst (Contains found) was sofar.has) way (subst (λ n. way < n) (sym ways) lt))
of_new found cur new t sofar before c behind is way lt (Later i) =
    by_way found new before c behind way c.0.ways is refl (omega (arith, first_at i.between c behind t.more i.behind t.first))

pub stepped : {A : Type 0} (found : List (List (Taken A))) (cur new : List (Taken A)) → Sofar found cur → Turns cur new → Sofar (found ++ new ∷ []) new
stepped {A} found cur new sofar t =
    let later : (xs : List (Taken A)) → Contains found xs → IsBefore xs new =
    λ xs has. elim (sofar.upto xs has) [
      | inl e ↦ subst (λ z. IsBefore z new) (sym e) (turn_is_before cur new t)
      | inr b ↦ before_again xs cur new b (turn_is_before cur new t)
    ] in
    record {
      has = Contains-push found new;
      pairs = all_pairs_push IsBefore found new sofar.pairs (λ k d lt. later _ (Contains-get_or found k d lt));
      upto = λ xs has. elim (Contains-push_cases found new xs has) [ inl h ↦ inr (later xs h) | inr e ↦ inl (sym e) ];
      tried = λ before c behind has way lt. elim (Contains-push_cases found new (before ++ c ∷ behind) has) [
        | inl h ↦ goes_on found cur new t sofar before c behind h way lt
        | inr e ↦ of_new found cur new t sofar before c behind e way lt (cuts before c behind t.kept t.to t.more (sym e ∙ t.is))
      ];
    }

-- the first run
pub begun : {A : Type 0} (new : List (Taken A)) → AllFirst new → Sofar (new ∷ []) new
begun {A} new first = record {
  has = Contains-push [] new;
  pairs = all_pairs_push IsBefore [] new (λ i j d lt below. absurd (omega arith)) (λ k d lt. absurd (omega arith));
  upto = λ xs has. elim (Contains-push_cases [] new xs has) [ inl h ↦ absurd (omega (arith, h.1)) | inr e ↦ inl (sym e) ];
  tried = λ before c behind has way lt. elim (Contains-push_cases [] new (before ++ c ∷ behind) has) [
    | inl h ↦ absurd (omega (arith, h.1))
    | inr e ↦ by_way [] new before c behind way c.0.ways e refl (omega (arith, first_at before c behind new e first))
  ];
}

-- the last run
pub ended : {A : Type 0} (found : List (List (Taken A))) (cur : List (Taken A)) → Sofar found cur → AllLast cur → IsEveryRun found
ended found cur sofar last = record {
  some = (cur, sofar.has);
  once = sofar.pairs;
  all = λ before c behind has way lt. elim (sofar.tried before c behind has way lt) [
    | inl g ↦ g
    | inr s ↦ absurd (omega (arith, last_at before s.taken s.behind cur s.is last, s.sooner, s.ways_is, lt))
  ];
}

-- ---- the loop of `run_all`

-- what is made, the path of the next run, and what the choices of the last one gave
pub data Stage {A : Type 0} (found : List (List (Taken A))) (path : List Choice) (given : List A) : Type 0 where
  Before : found ≡ [] → path ≡ [] → Stage found path given
  Between : (cur : List (Taken A)) → Sofar found cur → given ≡ gifts cur → GoesOn (choices cur) path → Stage found path given

pub came : {A : Type 0} (found : List (List (Taken A))) (path : List Choice) (given : List A) (whole : List Choice) (gives : List A)
    → Stage found path given → Comes path given whole gives → Sofar (found ++ zip whole gives ∷ []) (zip whole gives)
came found path given whole gives (Before none empty) comes =
    let behind : whole ≡ comes.more = comes.behind ∙ ap (λ z. z ++ comes.more) empty in
    let first : AllFirst (zip whole gives) = subst (λ z. AllFirst (zip z gives)) (sym behind) (all_first comes.more gives comes.first) in
    subst (λ z. Sofar (z ++ zip whole gives ∷ []) (zip whole gives)) (sym none) (begun (zip whole gives) first)
came found path given whole gives (Between cur sofar given_is goes) comes =
    stepped found cur (zip whole gives) sofar (turned cur path whole gives goes (subst (λ z. Comes path z whole gives) given_is comes))

pub went_on : {A : Type 0} (found : List (List (Taken A))) (whole path : List Choice) (gives : List A) → length gives ≡ length whole
    → Sofar found (zip whole gives) → GoesOn whole path → Stage found path gives
went_on found whole path gives each sofar goes =
    Between (zip whole gives) sofar (sym (zip_gifts whole gives each)) (subst (λ z. GoesOn z path) (sym (zip_choices whole gives each)) goes)

pub at_end : {A : Type 0} (found : List (List (Taken A))) (whole : List Choice) (gives : List A) → length gives ≡ length whole
    → Sofar found (zip whole gives) → AllByRecursion IsLast whole → IsEveryRun found
at_end found whole gives each sofar last = ended found (zip whole gives) sofar (all_last (zip whole gives) whole (zip_choices whole gives each) last)

pub pairs_at : {A : Type 0} (found : List (List (Taken A))) (path : List Choice) (given : List A) → Stage found path given → AllPairs IsBefore found
pairs_at found path given (Before none empty) = subst (AllPairs IsBefore) (sym none) (λ i j d lt below. absurd (omega arith))
pairs_at found path given (Between cur sofar given_is goes) = sofar.pairs

pub follows_more : {S X : Type 0} (told : S → X → S → Type 0) (s : S) (xs : List X) (t : S) (x : X) (u : S) → Follows told s xs t → told t x u → Follows told s (xs ++ x ∷ []) u
follows_more told s [] t x u f step = (u, subst (λ z. told z x u) (sym f) step, refl)
follows_more told s (y ∷ ys) t x u f step = (f.0, f.1, follows_more told f.0 ys t x u f.2 step)

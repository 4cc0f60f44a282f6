-- Runs one after another: what each keeps, and what they are in the end.
use Rattle.std.proofs.Common.{◌≡◌, ◌++◌, ◌∷◌, [], List, refl, sym, ap, ◌∙◌, subst, ◌-◌, length, take, arith, map, ap₂}
use Rattle.std.specs.Prelude.{zip}
use Rattle.std.specs.List.{AllByRecursion}
use Rattle.std.proofs.lemmas.List.{append_assoc, length-append, length-map, map-append}
use Rattle.ep_paths.specs.declared.choice.Choice.{Choice}
use Rattle.ep_paths.specs.Paths.{Comes, GoesOn, IsFirst, IsLast, IsNextWay, Taken}

-- two ways to cut a list at an element
pub record Inside {X : Type 0} (xs : List X) (x : X) (rest ys : List X) (y : X) (more : List X) : Type 0 where
  pub between : List X
  pub longer : ys ≡ xs ++ x ∷ between
  pub behind : rest ≡ between ++ y ∷ more

pub record Same {X : Type 0} (xs : List X) (x : X) (rest ys : List X) (y : X) (more : List X) : Type 0 where
  pub front : ys ≡ xs
  pub item : y ≡ x
  pub behind : more ≡ rest

pub data Cuts {X : Type 0} (xs : List X) (x : X) (rest ys : List X) (y : X) (more : List X) : Type 0 where
  Earlier : Inside xs x rest ys y more → Cuts xs x rest ys y more
  There : Same xs x rest ys y more → Cuts xs x rest ys y more
  Later : Inside ys y more xs x rest → Cuts xs x rest ys y more

cuts_more : {X : Type 0} (z : X) (xs : List X) (x : X) (rest ys : List X) (y : X) (more : List X) → Cuts xs x rest ys y more → Cuts (z ∷ xs) x rest (z ∷ ys) y more
cuts_more z xs x rest ys y more (Earlier i) = Earlier (record { between = i.between; longer = ap (λ s. z ∷ s) i.longer; behind = i.behind })
cuts_more z xs x rest ys y more (There i) = There (record { front = ap (λ s. z ∷ s) i.front; item = i.item; behind = i.behind })
cuts_more z xs x rest ys y more (Later i) = Later (record { between = i.between; longer = ap (λ s. z ∷ s) i.longer; behind = i.behind })

pub cuts : {X : Type 0} (xs : List X) (x : X) (rest ys : List X) (y : X) (more : List X) → xs ++ x ∷ rest ≡ ys ++ y ∷ more → Cuts xs x rest ys y more
cuts [] x rest [] y more e = There (record { front = refl; item = cc; behind = cc })
cuts [] x rest (z ∷ ys) y more e =
    let same : z ≡ x = cc in
    Earlier (record { between = ys; longer = ap (λ s. s ∷ ys) same; behind = cc })
cuts (z ∷ xs) x rest [] y more e =
    let same : z ≡ y = cc in
    Later (record { between = xs; longer = ap (λ s. s ∷ xs) same; behind = cc })
cuts {X} (z ∷ xs) x rest (w ∷ ys) y more e =
    let same : z ≡ w = cc in
    let behind : xs ++ x ∷ rest ≡ ys ++ y ∷ more = cc in
    subst (λ (v : X). Cuts (z ∷ xs) x rest (v ∷ ys) y more) same (cuts_more z xs x rest ys y more (cuts xs x rest ys y more behind))

-- ---- lists of choices, and what they gave

abbrev pub AllFirst : {A : Type 0} → List (Taken A) → Type 0
AllFirst xs = AllByRecursion (λ t. IsFirst t.0) xs

abbrev pub AllLast : {A : Type 0} → List (Taken A) → Type 0
AllLast xs = AllByRecursion (λ t. IsLast t.0) xs

abbrev pub choices : {A : Type 0} → List (Taken A) → List Choice
choices xs = map (λ t. t.0) xs

abbrev pub gifts : {A : Type 0} → List (Taken A) → List A
gifts xs = map (λ t. t.1) xs

-- of what a map gave, cut at an element
pub record CutAt {X Y : Type 0} (f : X → Y) (xs : List X) (ys : List Y) (y : Y) (zs : List Y) : Type 0 where
  pub front : List X
  pub item : X
  pub rest : List X
  pub is : xs ≡ front ++ item ∷ rest
  pub front_is : map f front ≡ ys
  pub item_is : f item ≡ y
  pub rest_is : map f rest ≡ zs

pub cut_map : {X Y : Type 0} (f : X → Y) (xs : List X) (ys : List Y) (y : Y) (zs : List Y) → map f xs ≡ ys ++ y ∷ zs → CutAt f xs ys y zs
cut_map f [] [] y zs e = absurd (cc)
cut_map f [] (w ∷ ys) y zs e = absurd (cc)
cut_map f (x ∷ xs) [] y zs e = record { front = []; item = x; rest = xs; is = refl; front_is = refl; item_is = cc; rest_is = cc }
cut_map f (x ∷ xs) (w ∷ ys) y zs e =
    let below = cut_map f xs ys y zs (cc) in
    let same : f x ≡ w = cc in
    let front : map f below.front ≡ ys = below.front_is in
    record { front = x ∷ below.front; item = below.item; rest = below.rest; is = ap (λ s. x ∷ s) {y = below.front ++ below.item ∷ below.rest} below.is; front_is = cc; item_is = below.item_is; rest_is = below.rest_is }

pub all_last : {A : Type 0} (xs : List (Taken A)) (cs : List Choice) → choices xs ≡ cs → AllByRecursion IsLast cs → AllLast xs
all_last [] cs e last = tt
all_last (x ∷ xs) [] e last = absurd (cc)
all_last (x ∷ xs) (c ∷ cs) e last =
    let same : c ≡ x.0 = cc in
    (subst IsLast same last.0, all_last xs cs (cc) last.1)

pub all_first : {A : Type 0} (cs : List Choice) (gives : List A) → AllByRecursion IsFirst cs → AllFirst (zip cs gives)
all_first [] gives first = tt
all_first (c ∷ cs) [] first = tt
all_first (c ∷ cs) (g ∷ gives) first = (first.0, all_first cs gives first.1)

pub zip_choices : {A : Type 0} (cs : List Choice) (gives : List A) → length gives ≡ length cs → choices (zip cs gives) ≡ cs
zip_choices [] gives e = refl
zip_choices (c ∷ cs) [] e = absurd (omega arith)
zip_choices (c ∷ cs) (g ∷ gives) e = ap (λ s. c ∷ s) (zip_choices cs gives (omega arith))

pub zip_gifts : {A : Type 0} (cs : List Choice) (gives : List A) → length gives ≡ length cs → gifts (zip cs gives) ≡ gives
zip_gifts [] [] e = refl
zip_gifts [] (g ∷ gives) e = absurd (omega arith)
zip_gifts (c ∷ cs) [] e = absurd (omega arith)
zip_gifts (c ∷ cs) (g ∷ gives) e = ap (λ s. g ∷ s) (zip_gifts cs gives (omega arith))

-- behind what is shared
pub record Zipped {A : Type 0} (front : List (Taken A)) (to : Choice) (more : List Choice) (gives : List A) : Type 0 where
  pub gift : A
  pub rest : List A
  pub is : zip (choices front ++ to ∷ more) gives ≡ front ++ (to, gift) ∷ zip more rest

pub zipped : {A : Type 0} (front : List (Taken A)) (to : Choice) (more : List Choice) (gives : List A)
    → length gives ≡ length (choices front ++ to ∷ more) → take (length front) gives ≡ gifts front → Zipped front to more gives
zipped [] to more [] e same = absurd (omega arith)
zipped [] to more (g ∷ gives) e same = record { gift = g; rest = gives; is = refl }
zipped (x ∷ front) to more [] e same = absurd (omega arith)
zipped {A} (x ∷ front) to more (g ∷ gives) e same =
    let below = zipped front to more gives (omega arith) (cc) in
    let gift : g ≡ x.1 = cc in
    record { gift = below.gift; rest = below.rest; is = ap₂ (λ (y : A) (s : List (Taken A)). (x.0, y) ∷ s) gift below.is }

-- ---- from one run to the next

pub record Turns {A : Type 0} (cur new : List (Taken A)) : Type 0 where
  pub kept : List (Taken A)
  pub from : Taken A
  pub to : Taken A
  pub gone : List (Taken A)
  pub more : List (Taken A)
  pub was : cur ≡ kept ++ from ∷ gone
  pub is : new ≡ kept ++ to ∷ more
  pub next : IsNextWay from.0 to.0
  pub last : AllLast gone
  pub first : AllFirst more

length_kept : {A : Type 0} (xs : List (Taken A)) (ks : List Choice) → choices xs ≡ ks → length ks ≡ length xs
length_kept xs ks e = sym (ap length e) ∙ length-map xs (λ t. t.0)

take_front : {X : Type 0} (xs : List X) (ys : List X) → take (length xs) (xs ++ ys) ≡ xs
take_front [] ys = refl
take_front (x ∷ xs) ys = ap (λ s. x ∷ s) (take_front xs ys)

pub turned : {A : Type 0} (cur : List (Taken A)) (path whole : List Choice) (gives : List A)
    → GoesOn (choices cur) path → Comes path (gifts cur) whole gives → Turns cur (zip whole gives)
turned {A} cur path whole gives goes comes =
    let cut = cut_map (λ (t : Taken A). t.0) cur goes.kept goes.from goes.gone goes.was in
    let is : whole ≡ choices cut.front ++ goes.to ∷ comes.more = comes.behind ∙ (ap (λ (s : List Choice). s ++ comes.more) goes.is ∙ (append_assoc goes.kept (goes.to ∷ []) comes.more ∙ ap (λ (s : List Choice). s ++ goes.to ∷ comes.more) (sym cut.front_is))) in
    let size : length path - 1 ≡ length cut.front =
    ap (λ (s : List Choice). length s - 1) goes.is ∙ (ap (λ n. n - 1) (length-append goes.kept (goes.to ∷ [])) ∙ omega (arith, length_kept cut.front goes.kept cut.front_is)) in
    let shared : take (length cut.front) (gifts cur) ≡ gifts cut.front =
    ap (λ (s : List (Taken A)). take (length cut.front) (gifts s)) cut.is ∙ (ap (take (length cut.front)) (map-append (λ (t : Taken A). t.1) cut.front (cut.item ∷ cut.rest))
    ∙ (ap (λ n. take n (gifts cut.front ++ gifts (cut.item ∷ cut.rest))) (sym (length-map cut.front (λ (t : Taken A). t.1))) ∙ take_front (gifts cut.front) (gifts (cut.item ∷ cut.rest)))) in
    let same : take (length cut.front) gives ≡ gifts cut.front = subst (λ n. take n gives ≡ take n (gifts cur)) size comes.same ∙ shared in
    let z = zipped cut.front goes.to comes.more gives (comes.each ∙ ap length is) same in
    record {
      kept = cut.front;
      from = cut.item;
      to = (goes.to, z.gift);
      gone = cut.rest;
      more = zip comes.more z.rest;
      was = cut.is;
      is = ap (λ (s : List Choice). zip s gives) is ∙ z.is;
      next = subst (λ c. IsNextWay c goes.to) (sym cut.item_is) goes.next;
      last = all_last cut.rest goes.gone cut.rest_is goes.last;
      first = all_first comes.more z.rest comes.first;
    }

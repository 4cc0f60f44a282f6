-- What an event's answer and parts show.
use Rattle.std.proofs.Common.{◌≡◌, ◌∙◌, ℕ, Bool, true, false, List, [], ◌∷◌, Option, Some, None, ap, subst, sym, refl, unwrap_or}
use Rattle.std.specs.Prelude.{MatchOption}
use Rattle.ep_base.specs.declared.answer.Answer.{Answer}
use Rattle.ep_base.specs.declared.answer.Answer.TheVariants.{Refused}
use Rattle.ep_base.specs.declared.errno.Errno.{Errno}
use Rattle.ep_machine.specs.Effect.{first}
use Rattle.ep_machine.specs.State.{Change, State}
use Rattle.ep_machine.specs.Spread.{raised_of}
use Rattle.ep_calls.specs.Raising.{AsRaised, AsRaisedIn, Raises, raised_bits}
use Rattle.ep_calls.specs.declared.raising.Raising.{Raising}
use Rattle.ep_calls.specs.declared.raising.Raising.TheVariants.{Nowhere}
use Rattle.ep_table.specs.Value.{Seen}
use Rattle.ep_calls.specs.Moves.{Goes, Makes, Refuses, StandFor}
use Rattle.ep_calls.specs.Parts.{Parts}

pub goes_refused : (refusals : List (Bool × Errno)) (o : Option Change) (s : State) (new : Parts) (e : Errno) → first refusals ≡ Some e → StandFor new s → Goes refusals o s (Refused e) [] new
goes_refused refusals o s new e h stands =
    let P : Option Errno → Type 0 = λ x. MatchOption x (Makes o (Refused e) new) (λ f. Refuses s f (Refused e) [] new) in
    subst P (sym h) (record { answers = refl; unpicked = refl; stands = stands })

pub goes_made : (refusals : List (Bool × Errno)) (o : Option Change) (s : State) (answer : Answer) (picked : List ℕ) (new : Parts) → first refusals ≡ None → Makes o answer new → Goes refusals o s answer picked new
goes_made refusals o s answer picked new h made =
    let P : Option Errno → Type 0 = λ x. MatchOption x (Makes o answer new) (λ f. Refuses s f answer picked new) in
    subst P (sym h) made

-- and what it raises: nothing where it is refused
pub raises_refused : (refusals : List (Bool × Errno)) (o : Option Change) (v : Seen) (now : ℕ) (e : Errno) (raising : Raising) → first refusals ≡ Some e → raising ≡ Nowhere → Raises refusals o raising v now
raises_refused refusals o v now e raising h nowhere =
    let P : Option Errno → Type 0 = λ x. MatchOption x ((made : Change) → o ≡ Some made → AsRaisedIn made.1.files raising v now made.2) (λ f. AsRaised raising v now []) in
    subst P (sym h) (λ d. sym (ap (λ (q : Raising). raised_bits q v now d) nowhere))

pub raises_made : (refusals : List (Bool × Errno)) (o : Option Change) (v : Seen) (now : ℕ) (raising : Raising) (c : Change) → first refusals ≡ None → o ≡ Some c → AsRaised raising v now c.2 → Raises refusals o raising v now
raises_made refusals o v now raising c h is told =
    let P : Option Errno → Type 0 = λ x. MatchOption x ((made : Change) → o ≡ Some made → AsRaisedIn made.1.files raising v now made.2) (λ f. AsRaised raising v now []) in
    subst P (sym h) (λ made e d w. subst (λ (b : Change). raised_of b.2 d ≡ raised_bits raising v now d) (ap (λ (q : Option Change). unwrap_or q c) (sym is ∙ e)) (told d))

-- with an answer that is given, and nothing picked
pub goes_told : (refusals : List (Bool × Errno)) (o : List ℕ → Option Change) (s : State) (answer given : Answer) (picked : List ℕ) (new : Parts) → answer ≡ given → picked ≡ [] → Goes refusals (o []) s given [] new → Goes refusals (o picked) s answer picked new
goes_told refusals o s answer given picked new told none h = subst (λ (a : Answer). Goes refusals (o picked) s a picked new) (sym told) (subst (λ (ks : List ℕ). Goes refusals (o ks) s given ks new) (sym none) h)

pub raises_told : (refusals : List (Bool × Errno)) (o : List ℕ → Option Change) (v : Seen) (now : ℕ) (raising : Raising) (picked : List ℕ) → picked ≡ [] → Raises refusals (o []) raising v now → Raises refusals (o picked) raising v now
raises_told refusals o v now raising picked none h = subst (λ (ks : List ℕ). Raises refusals (o ks) raising v now) (sym none) h

-- two tests that don't hold are passed
pub goes_past : (a b : Bool) (e f : Errno) (rest : List (Bool × Errno)) (o : Option Change) (s : State) (answer : Answer) (picked : List ℕ) (new : Parts) → a ≡ false → b ≡ false → Goes rest o s answer picked new → Goes ((a, e) ∷ (b, f) ∷ rest) o s answer picked new
goes_past a b e f rest o s answer picked new h i goes =
    subst (λ (x : Bool). Goes ((x, e) ∷ (b, f) ∷ rest) o s answer picked new) (sym h) (subst (λ (y : Bool). Goes ((false, e) ∷ (y, f) ∷ rest) o s answer picked new) (sym i) goes)

pub raises_past : (a b : Bool) (e f : Errno) (rest : List (Bool × Errno)) (o : Option Change) (v : Seen) (now : ℕ) (raising : Raising) → a ≡ false → b ≡ false → Raises rest o raising v now → Raises ((a, e) ∷ (b, f) ∷ rest) o raising v now
raises_past a b e f rest o v now raising h i raises =
    subst (λ (x : Bool). Raises ((x, e) ∷ (b, f) ∷ rest) o raising v now) (sym h) (subst (λ (y : Bool). Raises ((false, e) ∷ (y, f) ∷ rest) o raising v now) (sym i) raises)

-- the second test holds, and the first does not
pub second_holds : (a b : Bool) (e f : Errno) (rest : List (Bool × Errno)) → a ≡ false → b ≡ true → first ((a, e) ∷ (b, f) ∷ rest) ≡ Some f
second_holds a b e f rest h i = (λ k. first ((h k, e) ∷ (i k, f) ∷ rest))

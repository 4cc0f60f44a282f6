-- A text of numbers with commas between, taken apart and put together at its front.
use Rattle.std.proofs.Common.{List, [], IfSome, Option, Some, None, ap, arith, get_or, length, map, refl, subst, sym, ℕ, ◌++◌, ◌<◌, ◌^◌, ◌∙◌, ◌∷◌, ◌≡◌, ◌≢◌, ◌↔◌, IsSome}
use Rattle.std.specs.List.{AllByRecursion, join_with_byte}
use Rattle.std.specs.Str.Parse.{IsNumeral, digits_value}
use Rattle.std.proofs.lemmas.Bool.{false≢true}
use Rattle.std.proofs.lemmas.Str.Parse.{digit_at}
use Rattle.ep_base.specs.Limits.{AreInRange, Limits}
use Rattle.ep_text.specs.Limits.{IsLimitsText, Writes, numbers_of}

pub no_comma : (run : List ℕ) → IsNumeral 10 run → (i : ℕ) → i < length run → get_or run i 0 ≢ 44
no_comma run d i l e = omega (arith, digit_at run i d.1 l)

-- a run, the rest behind its comma, and what the rest writes
record WritesFirst (text : List ℕ) (n : ℕ) (ns : List ℕ) : Type 0 where
  pub run : List ℕ
  pub rest : List ℕ
  pub joined : text ≡ run ++ 44 ∷ rest
  pub digits : IsNumeral 10 run
  pub value : digits_value 10 run ≡ n
  pub others : Writes rest ns

cut : (text : List ℕ) (n m : ℕ) (ns : List ℕ) (runs : List (List ℕ)) → text ≡ join_with_byte 44 runs → AllByRecursion (IsNumeral 10) runs → map (digits_value 10) runs ≡ n ∷ m ∷ ns → WritesFirst text n (m ∷ ns)
cut text n m ns [] j d v = absurd (cc)
cut text n m ns (r ∷ []) j d v = absurd (cc)
cut text n m ns (r ∷ s ∷ runs) j d v = record { run = r; rest = join_with_byte 44 (s ∷ runs); joined = j; digits = d.0; value = cc; others = record { runs = s ∷ runs; joined = refl; digits = d.1; values = cc } }

first_of : {text : List ℕ} {n m : ℕ} {ns : List ℕ} → Writes text (n ∷ m ∷ ns) → WritesFirst text n (m ∷ ns)
first_of {text} {n} {m} {ns} w = cut text n m ns w.runs w.joined w.digits w.values

-- where the first number is found, it is the text's, and the rest writes the others
pub step : {text : List ℕ} {n m : ℕ} {ns : List ℕ} (found : ℕ) (left : List ℕ) → Writes text (n ∷ m ∷ ns) → n < 2 ^ 32
    → ((run rest : List ℕ) → text ≡ run ++ 44 ∷ rest → IsNumeral 10 run → digits_value 10 run < 2 ^ 32 → (found ≡ digits_value 10 run) × (left ≡ rest))
    → (found ≡ n) × Writes left (m ∷ ns)
step {text} {n} {m} {ns} found left w small find =
    let f = first_of w in
    let k = find f.run f.rest f.joined f.digits (subst (λ (v : ℕ). v < 2 ^ 32) (sym f.value) small) in
    (k.0 ∙ f.value, subst (λ (t : List ℕ). Writes t (m ∷ ns)) (sym k.1) f.others)

-- a text that writes two numbers or more has a first one
pub stuck : {text : List ℕ} {n m : ℕ} {ns : List ℕ} → Writes text (n ∷ m ∷ ns) → n < 2 ^ 32
    → ((run rest : List ℕ) → text ≡ run ++ 44 ∷ rest → IsNumeral 10 run → digits_value 10 run < 2 ^ 32 → ⊥) → ⊥
stuck w small find =
    let f = first_of w in
    find f.run f.rest f.joined f.digits (subst (λ (v : ℕ). v < 2 ^ 32) (sym f.value) small)

alone : (text : List ℕ) (n : ℕ) (runs : List (List ℕ)) → text ≡ join_with_byte 44 runs → AllByRecursion (IsNumeral 10) runs → map (digits_value 10) runs ≡ n ∷ [] → IsNumeral 10 text × (digits_value 10 text ≡ n)
alone text n [] j d v = absurd (cc)
alone text n (r ∷ []) j d v = (subst (IsNumeral 10) (sym j) d.0, ap (digits_value 10) j ∙ cc)
alone text n (r ∷ s ∷ runs) j d v = absurd (cc)

-- a text of one number is its digits
pub last : {text : List ℕ} {n : ℕ} → Writes text (n ∷ []) → IsNumeral 10 text × (digits_value 10 text ≡ n)
last {text} {n} w = alone text n w.runs w.joined w.digits w.values

pub only : (text : List ℕ) (n : ℕ) → IsNumeral 10 text → n ≡ digits_value 10 text → Writes text (n ∷ [])
only text n d v = record { runs = text ∷ []; joined = refl; digits = (d, tt); values = ap (λ m. m ∷ []) (sym v) }

joined_before : (text run rest : List ℕ) (n m : ℕ) (ns : List ℕ) (runs : List (List ℕ)) → text ≡ run ++ 44 ∷ rest → IsNumeral 10 run → digits_value 10 run ≡ n → rest ≡ join_with_byte 44 runs → AllByRecursion (IsNumeral 10) runs → map (digits_value 10) runs ≡ m ∷ ns → Writes text (n ∷ m ∷ ns)
joined_before text run rest n m ns [] j d v k e w = absurd (cc)
joined_before text run rest n m ns (s ∷ runs) j d v k e w = record { runs = run ∷ s ∷ runs; joined = j ∙ ap (λ t. run ++ 44 ∷ t) k; digits = (d, e); values = cc }

-- a number in front of a text, with a comma
pub before : {text : List ℕ} {n m : ℕ} {ns : List ℕ} (rest : List ℕ) → (run : List ℕ) × (text ≡ run ++ 44 ∷ rest) × IsNumeral 10 run × (digits_value 10 run ≡ n) → Writes rest (m ∷ ns) → Writes text (n ∷ m ∷ ns)
before {text} {n} {m} {ns} rest h w = joined_before text h.0 rest n m ns w.runs h.1 h.2 h.3 w.joined w.digits w.values

-- what `Limits::new` answers, for numbers that a text writes
pub written : (r : Option Limits) (text : List ℕ) (a : Limits) → IsSome r ↔ AreInRange a → IfSome r (λ l. l ≡ a) → Writes text (numbers_of a) → IfSome r (IsLimitsText text)
written None text a i v w = tt
written (Some l) text a i v w = subst (IsLimitsText text) (sym v) (record { written = w; in_range = i.0 refl })

abbrev of_numbers : ℕ → ℕ → ℕ → ℕ → ℕ → ℕ → Limits
of_numbers d f p w q s = record { descriptors = d; files = f; processes = p; watches = w; pipe_bytes = q; sock_bytes = s }

same_numbers : (a b : Limits) → a.descriptors ≡ b.descriptors → a.files ≡ b.files → a.processes ≡ b.processes → a.watches ≡ b.watches → a.pipe_bytes ≡ b.pipe_bytes → a.sock_bytes ≡ b.sock_bytes → a ≡ b
same_numbers a b d f p w q s = let e : of_numbers a.descriptors a.files a.processes a.watches a.pipe_bytes a.sock_bytes ≡ of_numbers b.descriptors b.files b.processes b.watches b.pipe_bytes b.sock_bytes = rw (d, f, p, w, q, s) refl in e

pub found : (r : Option Limits) (a b : Limits) → IsSome r ↔ AreInRange a → IfSome r (λ l. l ≡ a) → a.descriptors ≡ b.descriptors → a.files ≡ b.files → a.processes ≡ b.processes → a.watches ≡ b.watches → a.pipe_bytes ≡ b.pipe_bytes → a.sock_bytes ≡ b.sock_bytes → AreInRange b → r ≡ Some b
found None a b i v d f p w q s n = absurd (false≢true (i.1 (subst AreInRange (sym (same_numbers a b d f p w q s)) n)))
found (Some l) a b i v d f p w q s n = ap Some (v ∙ same_numbers a b d f p w q s)

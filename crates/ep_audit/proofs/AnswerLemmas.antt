-- The machine's test of two answers is true of equal ones alone.
use Rattle.std.proofs.Common.{◌≡◌, ◌&&◌, ◌==◌, Bool, List, None, Option, Some, [], ◌∷◌, ap, false, negsuc, pos, refl, subst, true, ℤ}
use Rattle.std.proofs.lemmas.Bool.{eqb-true}
use Rattle.std.specs.Prelude.{Decides}
use Rattle.ep_facts.proofs.BoolFacts.{both_true}
use Rattle.ep_base.specs.Errno.{errno_number}
use Rattle.ep_base.specs.declared.answer.Answer.{Answer}
use Rattle.ep_base.specs.declared.answer.Answer.TheVariants.{Bytes, Connecting, Done, Events, Failed, Named, Num, Parked, Refused, Still, Time, Two}
use Rattle.ep_base.specs.declared.answer.Report.{Report}
use Rattle.ep_base.specs.declared.errno.Errno.{Errno}
use Rattle.ep_base.specs.declared.errno.Errno.TheVariants.{Eagain, Ebadf, Ebusy, Eexist, Einval, Eloop, Emfile, Enfile, Enoent, Enomem, Enospc, Enotsock, Eperm, Epipe, Esrch}
use Rattle.ep_base.specs.declared.errno.Errno.TheVariants.{Eaddrinuse, Eaddrnotavail, Eafnosupport, Ealready, Econnaborted, Econnrefused, Econnreset, Eisconn, Enotconn}
use Rattle.ep_base.specs.declared.socket.Name.{Name}
use Rattle.ep_base.specs.declared.socket.Space.{Space}
use Rattle.ep_base.specs.declared.socket.Space.TheVariants.{Local, V4, V6}
use Rattle.ep_law.proofs.StepLemmas.{same_answer_self}
use Rattle.ep_machine.specs.Names.{space_number}
use Rattle.ep_machine.specs.Run.{same_answer, same_list, same_name_or_none, same_report}
use Rattle.ep_machine.specs.Tables.{same_number}

number_is : (a b : ℤ) → same_number a b ≡ true → a ≡ b
number_is (pos a) (pos b) e = ap pos (eqb-true a b e)
number_is (negsuc a) (negsuc b) e = ap negsuc (eqb-true a b e)
number_is a b e = cc

list_is : {X : Type 0} (same : X → X → Bool)
    → ((x y : X) → same x y ≡ true → x ≡ y)
    → (xs ys : List X)
    → same_list same xs ys ≡ true
    → xs ≡ ys
list_is same is [] [] e = refl
list_is same is (x ∷ xs) (y ∷ ys) e = let t = both_true (same x y) (same_list same xs ys) e in
    λ i. is x y t.0 i ∷ list_is same is xs ys t.1 i
list_is same is xs ys e = cc

report_is : (a b : Report) → same_report a b ≡ true → a ≡ b
report_is a b e = let t = both_true (a.bits.0 == b.bits.0) (a.tag == b.tag) e in
    λ i. record { bits = record { 0 = eqb-true a.bits.0 b.bits.0 t.0 i }; tag = eqb-true a.tag b.tag t.1 i }

errno_is : (a b : Errno) → (errno_number a == errno_number b) ≡ true → a ≡ b
errno_is Eperm Eperm e = refl
errno_is Enoent Enoent e = refl
errno_is Esrch Esrch e = refl
errno_is Ebadf Ebadf e = refl
errno_is Eagain Eagain e = refl
errno_is Enomem Enomem e = refl
errno_is Ebusy Ebusy e = refl
errno_is Eexist Eexist e = refl
errno_is Einval Einval e = refl
errno_is Enfile Enfile e = refl
errno_is Emfile Emfile e = refl
errno_is Enospc Enospc e = refl
errno_is Epipe Epipe e = refl
errno_is Eloop Eloop e = refl
errno_is Enotsock Enotsock e = refl
errno_is Eafnosupport Eafnosupport e = refl
errno_is Eaddrinuse Eaddrinuse e = refl
errno_is Eaddrnotavail Eaddrnotavail e = refl
errno_is Econnaborted Econnaborted e = refl
errno_is Econnreset Econnreset e = refl
errno_is Eisconn Eisconn e = refl
errno_is Enotconn Enotconn e = refl
errno_is Econnrefused Econnrefused e = refl
errno_is Ealready Ealready e = refl
errno_is a b e = cc

space_is : (a b : Space) → (space_number a == space_number b) ≡ true → a ≡ b
space_is V4 V4 e = refl
space_is V6 V6 e = refl
space_is Local Local e = refl
space_is a b e = cc

name_is : (a b : Option Name) → same_name_or_none a b ≡ true → a ≡ b
name_is None None e = refl
name_is (Some a) (Some b) e = let t = both_true (space_number a.space == space_number b.space) (a.number == b.number) e in
    λ i. Some (record { space = space_is a.space b.space t.0 i; number = eqb-true a.number b.number t.1 i })
name_is a b e = cc

answer_is : (a b : Answer) → same_answer a b ≡ true → a ≡ b
answer_is Done Done e = refl
answer_is (Num a) (Num b) e = ap Num (eqb-true a b e)
answer_is (Two a b) (Two c d) e = let t = both_true (same_number a.0 c.0) (same_number b.0 d.0) e in
    λ i. Two (record { 0 = number_is a.0 c.0 t.0 i }) (record { 0 = number_is b.0 d.0 t.1 i })
answer_is (Bytes a) (Bytes b) e = ap Bytes (list_is ◌==◌ eqb-true a b e)
answer_is (Events a) (Events b) e = ap Events (list_is same_report report_is a b e)
answer_is (Time a b) (Time c d) e = let t = both_true (a == c) (b == d) e in
    λ i. Time (eqb-true a c t.0 i) (eqb-true b d t.1 i)
answer_is Parked Parked e = refl
answer_is Still Still e = refl
answer_is Connecting Connecting e = refl
answer_is (Failed a) (Failed b) e = ap Failed (errno_is a b e)
answer_is (Named a) (Named b) e = ap Named (name_is a b e)
answer_is (Refused a) (Refused b) e = ap Refused (errno_is a b e)
answer_is a b e = cc

pub same_answer_decides : (a b : Answer) → Decides (same_answer a b) (a ≡ b)
same_answer_decides a b = (answer_is a b, λ e. subst (λ (x : Answer). same_answer a x ≡ true) e (same_answer_self a))

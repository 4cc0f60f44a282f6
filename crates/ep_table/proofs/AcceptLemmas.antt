-- How accept is refused: the first of its tests that holds.
use Rattle.std.proofs.Common.{Bool, List, None, Option, Some, ap, false, is_none, not, nat_le, sym, true, unwrap_or, ℕ, ℤ, ◌++◌, ◌∙◌, ◌∷◌, ◌≡◌, [], refl}
use Rattle.ep_base.specs.declared.errno.Errno.{Errno}
use Rattle.ep_base.specs.declared.errno.Errno.TheVariants.{Eagain, Ebadf, Einval, Emfile, Enotsock}
use Rattle.ep_machine.specs.Connections.{first_waiting, pending_in}
use Rattle.ep_machine.specs.Effect.{first}
use Rattle.ep_machine.specs.Files.{names_nothing, numbers_of, object_of, object_under}
use Rattle.ep_machine.specs.FilesCalls.{accept_of}
use Rattle.ep_machine.specs.Objects.{Object, is_listener, is_socket, of_socket, plain}
use Rattle.ep_machine.specs.Tables.{one_free, one_refusals}
use Rattle.ep_table.specs.Value.{Seen}
use Rattle.ep_machine.specs.Files.{under}

stops : (b : Bool) (e : Errno) (rest : List (Bool × Errno)) → b ≡ true → first ((b, e) ∷ rest) ≡ Some e
stops b e rest h = ap (λ (t : Bool). first ((t, e) ∷ rest)) h

goes_on : (b : Bool) (e : Errno) (rest : List (Bool × Errno)) → b ≡ false → first ((b, e) ∷ rest) ≡ first rest
goes_on b e rest h = ap (λ (t : Bool). first ((t, e) ∷ rest)) h

behind : (xs ys : List (Bool × Errno)) → first xs ≡ None → first (xs ++ ys) ≡ first ys
behind [] ys h = refl
behind ((true, e) ∷ xs) ys h = cc
behind ((false, e) ∷ xs) ys h = behind xs ys h

before : (xs ys : List (Bool × Errno)) (e : Errno) → first xs ≡ Some e → first (xs ++ ys) ≡ Some e
before [] ys e h = cc
before ((true, f) ∷ xs) ys e h = h
before ((false, f) ∷ xs) ys e h = before xs ys e h

module _ (v : Seen) (p : ℕ) (fd : ℤ) where
  abbrev x : Object
  x = object_under v.files p fd

  -- behind the test of one kind of file
  abbrev last_tests : List (Bool × Errno)
  last_tests = (not (is_listener x), Einval) ∷ (is_none (first_waiting v.files (pending_in x)), Eagain) ∷ []

  abbrev of_sockets : List (Bool × Errno)
  of_sockets = of_socket x (one_refusals v.limits v.files p ++ last_tests)

  abbrev full : Bool
  full = nat_le v.limits.descriptors (one_free (numbers_of v.files p))

  abbrev Refused : Errno → Type 0
  Refused e = first (accept_of v.limits v.files p fd false).refusals ≡ Some e

  pub unnamed_accept : None ≡ under v.files p fd → Refused Ebadf
  unnamed_accept h = stops (names_nothing v.files p fd) Ebadf _ (ap (λ (o : Option ℕ). is_none o) (sym h))

  module _ (d : ℕ) (found : Some d ≡ under v.files p fd) where
    named : names_nothing v.files p fd ≡ false
    named = ap (λ (o : Option ℕ). is_none o) (sym found)

    pub full_accept : full ≡ true → Refused Emfile
    full_accept b = goes_on (names_nothing v.files p fd) Ebadf _ named ∙ stops full Emfile of_sockets b

    module _ (roomy : full ≡ false) (y : Object) (is : Some y ≡ object_of v.files d) where
      same : y ≡ x
      same = ap (λ (o : Option Object). unwrap_or o plain) (is ∙ ap (λ (n : ℕ). object_of v.files n) (ap (λ (o : Option ℕ). unwrap_or o 0) found))

      to_sockets : first (accept_of v.limits v.files p fd false).refusals ≡ first of_sockets
      to_sockets = goes_on (names_nothing v.files p fd) Ebadf _ named ∙ goes_on full Emfile of_sockets roomy

      pub other_accept : is_socket y ≡ false → Refused Enotsock
      other_accept h = to_sockets ∙ stops (not (is_socket x)) Enotsock _ (ap not (sym (ap is_socket same) ∙ h))

      module _ (socket : is_socket y ≡ true) where
        to_ones : first (accept_of v.limits v.files p fd false).refusals ≡ first (one_refusals v.limits v.files p ++ last_tests)
        to_ones = to_sockets ∙ goes_on (not (is_socket x)) Enotsock _ (ap not (sym (ap is_socket same) ∙ socket))

        pub many_accept : (e : Errno) → Some e ≡ first (one_refusals v.limits v.files p) → Refused e
        many_accept e h = to_ones ∙ before (one_refusals v.limits v.files p) last_tests e (sym h)

        module _ (few : None ≡ first (one_refusals v.limits v.files p)) where
          to_last : first (accept_of v.limits v.files p fd false).refusals ≡ first last_tests
          to_last = to_ones ∙ behind (one_refusals v.limits v.files p) last_tests (sym few)

          pub deaf_accept : is_listener y ≡ false → Refused Einval
          deaf_accept h = to_last ∙ stops (not (is_listener x)) Einval _ (ap not (sym (ap is_listener same) ∙ h))

          module _ (hears : is_listener y ≡ true) where
            to_waiting : first (accept_of v.limits v.files p fd false).refusals ≡ first ((is_none (first_waiting v.files (pending_in x)), Eagain) ∷ [])
            to_waiting = to_last ∙ goes_on (not (is_listener x)) Einval _ (ap not (sym (ap is_listener same) ∙ hears))

            at_listener : pending_in y ≡ pending_in x
            at_listener = ap pending_in same

            pub empty_accept : first_waiting v.files (pending_in y) ≡ None → Refused Eagain
            empty_accept h =
                to_waiting ∙ stops (is_none (first_waiting v.files (pending_in x))) Eagain [] (ap (λ (ks : List ℕ). is_none (first_waiting v.files ks)) (sym at_listener) ∙ ap (λ (o : Option ℕ). is_none o) h)

            pub free_accept : (n : ℕ) → first_waiting v.files (pending_in y) ≡ Some n → first (accept_of v.limits v.files p fd false).refusals ≡ None
            free_accept n h =
                to_waiting ∙ goes_on (is_none (first_waiting v.files (pending_in x))) Eagain [] (ap (λ (ks : List ℕ). is_none (first_waiting v.files ks)) (sym at_listener) ∙ ap (λ (o : Option ℕ). is_none o) h)

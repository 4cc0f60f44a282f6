-- The kinds of object, told apart by numbers. A socket without a connection may come to listen, so it has one number.
use Rattle.std.specs.Prelude.{ℕ}
use Rattle.ep_machine.specs.Objects.{Object, counter, idle, instance, listener, pair, pipe, plain, timer}

abbrev pub kind_number : Object → ℕ
kind_number plain = 0
kind_number (pipe p) = 1
kind_number (pair p) = 2
kind_number (counter c) = 3
kind_number (timer t) = 4
kind_number instance = 5
kind_number (idle i) = 6
kind_number (listener l) = 6

-- What an object is to contracts.
use Rattle.ep_machine.specs.Objects.{Object, counter, idle, instance, listener, pair, pipe, plain, timer}
use Rattle.ep_object.specs.declared.object.Kind.{Kind}
use Rattle.ep_object.specs.declared.object.Kind.TheVariants.{Counter, Idle, Instance, Listener, Pair, Pipe, Plain, Timer}

abbrev pub content_of : Kind → Object
content_of (Plain alloc) = plain
content_of (Pipe p) = pipe p
content_of (Pair p) = pair p.value
content_of (Idle i) = idle i
content_of (Listener l) = listener l
content_of (Counter c) = counter c
content_of (Timer t) = timer t
content_of Instance = instance

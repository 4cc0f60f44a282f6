-- What a function answers: 0, or minus an error number of Linux.
use Rattle.std.specs.Prelude.{ℤ, pos, negsuc}

abbrev pub fine : ℤ
fine = pos 0

-- EBADF
abbrev pub no_kernel : ℤ
no_kernel = negsuc 8

-- ENOMEM
abbrev pub no_memory : ℤ
no_memory = negsuc 11

-- EBUSY
abbrev pub has_kernel : ℤ
has_kernel = negsuc 15

-- EINVAL
abbrev pub invalid : ℤ
invalid = negsuc 21

-- ENOSYS
abbrev pub no_such_event : ℤ
no_such_event = negsuc 37

-- EOVERFLOW
abbrev pub no_number : ℤ
no_number = negsuc 74

-- EBADMSG
abbrev pub illegal : ℤ
illegal = negsuc 73

-- EMSGSIZE
abbrev pub no_room : ℤ
no_room = negsuc 89

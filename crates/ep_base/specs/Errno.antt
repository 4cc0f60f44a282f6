-- The numbers and names of errors.
use Rattle.std.specs.Prelude.{List, codes, ℕ}
use Rattle.ep_base.specs.declared.errno.Errno.{Errno}
use Rattle.ep_base.specs.declared.errno.Errno.TheVariants.{Eagain, Ebadf, Ebusy, Eexist, Einval}
use Rattle.ep_base.specs.declared.errno.Errno.TheVariants.{Eloop, Emfile, Enfile, Enoent, Enomem}
use Rattle.ep_base.specs.declared.errno.Errno.TheVariants.{Enospc, Enotsock, Eperm, Epipe, Esrch}
use Rattle.ep_base.specs.declared.errno.Errno.TheVariants.{Eaddrinuse, Eaddrnotavail, Eafnosupport, Econnaborted}
use Rattle.ep_base.specs.declared.errno.Errno.TheVariants.{Ealready, Econnrefused, Econnreset, Eisconn, Enotconn}

abbrev pub errno_number : Errno → ℕ
errno_number Eperm = 1
errno_number Enoent = 2
errno_number Esrch = 3
errno_number Ebadf = 9
errno_number Eagain = 11
errno_number Enomem = 12
errno_number Ebusy = 16
errno_number Eexist = 17
errno_number Einval = 22
errno_number Enfile = 23
errno_number Emfile = 24
errno_number Enospc = 28
errno_number Epipe = 32
errno_number Eloop = 40
errno_number Enotsock = 88
errno_number Eafnosupport = 97
errno_number Eaddrinuse = 98
errno_number Eaddrnotavail = 99
errno_number Econnaborted = 103
errno_number Econnreset = 104
errno_number Eisconn = 106
errno_number Enotconn = 107
errno_number Econnrefused = 111
errno_number Ealready = 114

abbrev pub errno_name : Errno → List ℕ
errno_name Eperm = codes "EPERM"
errno_name Enoent = codes "ENOENT"
errno_name Esrch = codes "ESRCH"
errno_name Ebadf = codes "EBADF"
errno_name Eagain = codes "EAGAIN"
errno_name Enomem = codes "ENOMEM"
errno_name Ebusy = codes "EBUSY"
errno_name Eexist = codes "EEXIST"
errno_name Einval = codes "EINVAL"
errno_name Enfile = codes "ENFILE"
errno_name Emfile = codes "EMFILE"
errno_name Enospc = codes "ENOSPC"
errno_name Epipe = codes "EPIPE"
errno_name Eloop = codes "ELOOP"
errno_name Enotsock = codes "ENOTSOCK"
errno_name Eafnosupport = codes "EAFNOSUPPORT"
errno_name Eaddrinuse = codes "EADDRINUSE"
errno_name Eaddrnotavail = codes "EADDRNOTAVAIL"
errno_name Econnaborted = codes "ECONNABORTED"
errno_name Econnreset = codes "ECONNRESET"
errno_name Eisconn = codes "EISCONN"
errno_name Enotconn = codes "ENOTCONN"
errno_name Econnrefused = codes "ECONNREFUSED"
errno_name Ealready = codes "EALREADY"

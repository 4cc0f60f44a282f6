-- The keys as a line has them.
use Rattle.std.specs.Prelude.{List, codes, ℕ}
use Rattle.ep_text.specs.declared.key.Key.{Key}
use Rattle.ep_text.specs.declared.key.Key.TheVariants as key

abbrev pub key_name : Key → List ℕ
key_name key.Op = codes "op"
key_name key.By = codes "by"
key_name key.Pid = codes "pid"
key_name key.Cloexec = codes "cloexec"
key_name key.Init = codes "init"
key_name key.Sem = codes "sem"
key_name key.Clock = codes "clock"
key_name key.Ep = codes "ep"
key_name key.Fd = codes "fd"
key_name key.Act = codes "act"
key_name key.Mask = codes "mask"
key_name key.Data = codes "data"
key_name key.Max = codes "max"
key_name key.Timeout = codes "timeout"
key_name key.N = codes "n"
key_name key.Hex = codes "hex"
key_name key.Fill = codes "fill"
key_name key.Value = codes "value"
key_name key.Interval = codes "interval"
key_name key.Abs = codes "abs"
key_name key.To = codes "to"
key_name key.How = codes "how"
key_name key.Family = codes "family"
key_name key.Space = codes "space"
key_name key.Name = codes "name"
key_name key.Backlog = codes "backlog"

-- its place among the keys
abbrev pub key_number : Key → ℕ
key_number key.Op = 0
key_number key.By = 1
key_number key.Pid = 2
key_number key.Cloexec = 3
key_number key.Init = 4
key_number key.Sem = 5
key_number key.Clock = 6
key_number key.Ep = 7
key_number key.Fd = 8
key_number key.Act = 9
key_number key.Mask = 10
key_number key.Data = 11
key_number key.Max = 12
key_number key.Timeout = 13
key_number key.N = 14
key_number key.Hex = 15
key_number key.Fill = 16
key_number key.Value = 17
key_number key.Interval = 18
key_number key.Abs = 19
key_number key.To = 20
key_number key.How = 21
key_number key.Family = 22
key_number key.Space = 23
key_number key.Name = 24
key_number key.Backlog = 25

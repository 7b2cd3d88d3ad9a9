-- What a command names is there in the table of queues.
use Rattle.std.proofs.Common.{◌≡◌, ℕ, ◌<◌, length, Some, None, sym, subst, arith}
use Rattle.scen_words.specs.Commands.{file_of}
use Rattle.tap_steer.specs.Named.{IsFile}
use Rattle.tap_steer.specs.Table.{Table}
use Rattle.tap_world.specs.declared.event.EventKind.{EventKind}
use Rattle.tap_world.specs.Setup.{device_in}
use Rattle.tap_world.specs.Steady.{file_in}
use Rattle.core_shared.specs.Asking.{Asking, setup}
use Rattle.core_shared.specs.Coming.{come_of}
use Rattle.core_shared.specs.MayDo.{MayDo}
use Rattle.core_shared.specs.declared.doing.Doing.{Doing}
use Rattle.core_shared.specs.declared.shared.Shared.{Shared}
use Rattle.core_shared.proofs.Kit.{if_there}
use Rattle.core_shared.proofs.Named.{is_file, names_few}
use Rattle.core_shared.proofs.Taking.{about_there, declared, file_named}

pub none_some : {A : Type 0} {B : Type 0} (x : A) → None ≡ Some x → B
none_some x e = absurd (cc (e))

-- the file of a read or a write is there
pub its_file : (a : Asking) (d : Doing) (kind : EventKind) (x : Shared) (file : ℕ) (t : Table) → MayDo a d kind x
    → file_of a.command ≡ Some file → t ≡ x.ops.table → IsFile t file
its_file a d kind x file t m is same =
    subst (λ (u : Table). IsFile u file) (sym same) (is_file m file (file_named m file is))

-- and the file that a command is about
pub about_file : (a : Asking) (d : Doing) (kind : EventKind) (x : Shared) (file : ℕ) → MayDo a d kind x
    → file_in (come_of x.vhosts d) ≡ Some file → IsFile x.ops.table file
about_file a d kind x file m is = is_file m file (about_there m file is)

-- the device of a send is one of 64
pub its_device : (a : Asking) (d : Doing) (kind : EventKind) (x : Shared) (device : ℕ) → MayDo a d kind x
    → device_in a.command ≡ Some device → device < 64
its_device a d kind x device m is =
    let below : device < length (setup a).names = if_there (device_in a.command) (λ (n : ℕ). n < length (setup a).names) device is (declared m).device in
    let few = names_few m in
    omega (arith, few, below)

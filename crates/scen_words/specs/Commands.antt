-- This project's own: the command that a word and its values are, and the word and the values that a command is.
-- Numbers stand in their fields from 0 on; a name is its number among the names.
use Rattle.std.specs.Prelude.{ℕ, ◌%◌, ◌^◌, Bool, true, false, ◌==◌, if◌then◌else◌, List, [], ◌∷◌, length, map, drop, slice_get, slice_index_or, Option, Some, None}
use Rattle.tap_frame.specs.declared.header.Hdr.{Hdr}
use Rattle.text_fields.specs.declared.value.Value.{Value}
use Rattle.text_fields.specs.declared.value.Value.TheVariants as value
use Rattle.scen_words.specs.declared.command.Command.{Command}
use Rattle.scen_words.specs.declared.command.Command.TheVariants.{SetIff, SetQueue, Close, Persist, HdrSize, Steer, Filter, Tick, Resize, Send, Read, Write, Features, VNum, VBase, VAddr, GetBase, Backend, RxTurn, TxTurn, Poke, Peek, DriveAt, PostIn, PostOut, Harvest}
use Rattle.scen_words.specs.declared.declaration.Declaration.{Declaration}
use Rattle.scen_words.specs.declared.declaration.Declaration.TheVariants.{File, Region, Vhost, Prog, Flows}
use Rattle.scen_words.specs.declared.word.CommandWord.{CommandWord}
use Rattle.scen_words.specs.declared.word.CommandWord.TheVariants as command
use Rattle.scen_words.specs.declared.word.DeclarationWord.{DeclarationWord}
use Rattle.scen_words.specs.declared.word.DeclarationWord.TheVariants as declaration

-- ---- what a value is: a number, a name or bytes; the form of the line has seen to which one it is, and to its range

abbrev pub number_in : Option Value → ℕ
number_in (Some (value.Number n)) = n
number_in v = 0

abbrev pub some_number_in : Option Value → Option ℕ
some_number_in (Some (value.Number n)) = Some (n % 2 ^ 16)
some_number_in v = None

abbrev pub name_in : Option Value → Option (List ℕ)
name_in (Some (value.Name name)) = Some name
name_in v = None

abbrev pub bytes_in : Option Value → List ℕ
bytes_in (Some (value.Bytes bytes)) = bytes
bytes_in v = []

-- the ten bytes of a header, or none for `-`
abbrev pub header_in : Option Value → Option Hdr
header_in (Some (value.Bytes bytes)) = if length bytes == 10 then Some (record { bytes = bytes }) else None
header_in v = None

-- the number in a field, whole, or as 32 or 16 bits
abbrev pub u64_at : List Value → ℕ → ℕ
u64_at values i = number_in (slice_get values i)

abbrev pub u32_at : List Value → ℕ → ℕ
u32_at values i = u64_at values i % 2 ^ 32

abbrev pub u16_at : List Value → ℕ → ℕ
u16_at values i = u64_at values i % 2 ^ 16

-- a number or `-`
abbrev pub option_at : List Value → ℕ → Option ℕ
option_at values i = some_number_in (slice_get values i)

abbrev pub flag_at : List Value → ℕ → Bool
flag_at values i = u64_at values i == 1

abbrev pub name_at : List Value → ℕ → Option (List ℕ)
name_at values i = name_in (slice_get values i)

abbrev pub bytes_at : List Value → ℕ → List ℕ
bytes_at values i = bytes_in (slice_get values i)

abbrev pub header_at : List Value → ℕ → Option Hdr
header_at values i = header_in (slice_get values i)

-- the lengths from a field on
abbrev pub length_in : Value → ℕ
length_in v = number_in (Some v) % 2 ^ 32

abbrev pub lengths_from : ℕ → List Value → List ℕ
lengths_from i values = map length_in (drop i values)

-- ---- declarations

-- the declaration that a word and its values are, with the number of the name in it
unfoldable pub declaration_of : ℕ → DeclarationWord → List Value → Declaration
declaration_of name declaration.File v = File (u16_at v 0) (u16_at v 1) (u64_at v 2)
declaration_of name declaration.Region v = Region (u16_at v 0) (u64_at v 1) (u64_at v 2)
declaration_of name declaration.Vhost v = Vhost (u16_at v 0) (u16_at v 1)
declaration_of name declaration.Prog v = Prog (u16_at v 0) (bytes_at v 1)
declaration_of name declaration.Flows v = Flows name (u32_at v 1) (u64_at v 2)

-- the name in a declaration
abbrev pub declared_name : DeclarationWord → List Value → Option (List ℕ)
declared_name declaration.Flows v = name_at v 0
declared_name word v = None

-- ---- commands

-- the command that a word and its values are, with the number of the name in it
unfoldable pub command_of : ℕ → CommandWord → List Value → Command
command_of name command.SetIff v = SetIff (u16_at v 0) name (u16_at v 2)
command_of name command.SetQueue v = SetQueue (u16_at v 0) (u16_at v 1)
command_of name command.Close v = Close (u16_at v 0)
command_of name command.Persist v = Persist (u16_at v 0) (flag_at v 1)
command_of name command.HdrSize v = HdrSize (u16_at v 0) (u32_at v 1)
command_of name command.Steer v = Steer (u16_at v 0) (option_at v 1)
command_of name command.Filter v = Filter (u16_at v 0) (option_at v 1)
command_of name command.Tick v = Tick (u64_at v 0)
command_of name command.Resize v = Resize (u16_at v 0) (u16_at v 1)
command_of name command.Send v = Send name (header_at v 1) (bytes_at v 2)
command_of name command.Read v = Read (u16_at v 0) (u32_at v 1)
command_of name command.Write v = Write (u16_at v 0) (bytes_at v 1)
command_of name command.Features v = Features (u16_at v 0) (u64_at v 1)
command_of name command.VNum v = VNum (u16_at v 0) (u16_at v 1) (u64_at v 2)
command_of name command.VBase v = VBase (u16_at v 0) (u16_at v 1) (u64_at v 2)
command_of name command.VAddr v = VAddr (u16_at v 0) (u16_at v 1) (u64_at v 2) (u64_at v 3) (u64_at v 4)
command_of name command.GetBase v = GetBase (u16_at v 0) (u16_at v 1)
command_of name command.Backend v = Backend (u16_at v 0) (u16_at v 1) (option_at v 2)
command_of name command.RxTurn v = RxTurn (u16_at v 0)
command_of name command.TxTurn v = TxTurn (u16_at v 0)
command_of name command.Poke v = Poke (u16_at v 0) (u64_at v 1) (bytes_at v 2)
command_of name command.Peek v = Peek (u16_at v 0) (u64_at v 1) (u32_at v 2)
command_of name command.Drive v = DriveAt (u16_at v 0) (u16_at v 1) (u64_at v 2)
command_of name command.PostIn v = PostIn (u16_at v 0) (u16_at v 1) (lengths_from 2 v)
command_of name command.PostOut v = PostOut (u16_at v 0) (u16_at v 1) (bytes_at v 2)
command_of name command.Harvest v = Harvest (u16_at v 0) (u16_at v 1)

-- the name in a command
abbrev pub commanded_name : CommandWord → List Value → Option (List ℕ)
commanded_name command.SetIff v = name_at v 1
commanded_name command.Send v = name_at v 0
commanded_name word v = None

-- ---- the word and the values that a declaration or a command is, among these names

-- the name of a number
abbrev pub name_of : List (List ℕ) → ℕ → List ℕ
name_of names n = slice_index_or names n []

-- a first place of 0 isn't written
abbrev pub first_values : ℕ → List Value
first_values first = if first == 0 then [] else value.Number first ∷ []

abbrev pub option_value : Option ℕ → Value
option_value None = value.None
option_value (Some n) = value.Number n

abbrev pub flag_value : Bool → Value
flag_value true = value.Number 1
flag_value false = value.Number 0

abbrev pub header_value : Option Hdr → Value
header_value None = value.None
header_value (Some hdr) = value.Bytes hdr.bytes

abbrev pub declaration_word : Declaration → DeclarationWord
declaration_word (File file capacity first) = declaration.File
declaration_word (Region guest addr len) = declaration.Region
declaration_word (Vhost vhost guest) = declaration.Vhost
declaration_word (Prog program code) = declaration.Prog
declaration_word (Flows name limit age) = declaration.Flows

unfoldable pub declaration_values : List (List ℕ) → Declaration → List Value
declaration_values names (File file capacity first) = value.Number file ∷ value.Number capacity ∷ first_values first
declaration_values names (Region guest addr len) = value.Number guest ∷ value.Number addr ∷ value.Number len ∷ []
declaration_values names (Vhost vhost guest) = value.Number vhost ∷ value.Number guest ∷ []
declaration_values names (Prog program code) = value.Number program ∷ value.Bytes code ∷ []
declaration_values names (Flows name limit age) =
    value.Name (name_of names name) ∷ value.Number limit ∷ value.Number age ∷ []

-- the values of which a declaration is made as they are written: a first place of 0 isn't
abbrev pub normal : DeclarationWord → List Value → List Value
normal declaration.File v = value.Number (u16_at v 0) ∷ value.Number (u16_at v 1) ∷ first_values (u64_at v 2)
normal word v = v

abbrev pub command_word : Command → CommandWord
command_word (SetIff file name flags) = command.SetIff
command_word (SetQueue file flags) = command.SetQueue
command_word (Close file) = command.Close
command_word (Persist file on) = command.Persist
command_word (HdrSize file size) = command.HdrSize
command_word (Steer file program) = command.Steer
command_word (Filter file program) = command.Filter
command_word (Tick now) = command.Tick
command_word (Resize file capacity) = command.Resize
command_word (Send name hdr bytes) = command.Send
command_word (Read file room) = command.Read
command_word (Write file bytes) = command.Write
command_word (Features vhost bits) = command.Features
command_word (VNum vhost ring num) = command.VNum
command_word (VBase vhost ring base) = command.VBase
command_word (VAddr vhost ring desc avail used) = command.VAddr
command_word (GetBase vhost ring) = command.GetBase
command_word (Backend vhost ring file) = command.Backend
command_word (RxTurn vhost) = command.RxTurn
command_word (TxTurn vhost) = command.TxTurn
command_word (Poke guest addr bytes) = command.Poke
command_word (Peek guest addr len) = command.Peek
command_word (DriveAt vhost ring addr) = command.Drive
command_word (PostIn vhost ring lens) = command.PostIn
command_word (PostOut vhost ring bytes) = command.PostOut
command_word (Harvest vhost ring) = command.Harvest

unfoldable pub command_values : List (List ℕ) → Command → List Value
command_values names (SetIff file name flags) =
    value.Number file ∷ value.Name (name_of names name) ∷ value.Number flags ∷ []
command_values names (SetQueue file flags) = value.Number file ∷ value.Number flags ∷ []
command_values names (Close file) = value.Number file ∷ []
command_values names (Persist file on) = value.Number file ∷ flag_value on ∷ []
command_values names (HdrSize file size) = value.Number file ∷ value.Number size ∷ []
command_values names (Steer file program) = value.Number file ∷ option_value program ∷ []
command_values names (Filter file program) = value.Number file ∷ option_value program ∷ []
command_values names (Tick now) = value.Number now ∷ []
command_values names (Resize file capacity) = value.Number file ∷ value.Number capacity ∷ []
command_values names (Send name hdr bytes) = value.Name (name_of names name) ∷ header_value hdr ∷ value.Bytes bytes ∷ []
command_values names (Read file room) = value.Number file ∷ value.Number room ∷ []
command_values names (Write file bytes) = value.Number file ∷ value.Bytes bytes ∷ []
command_values names (Features vhost bits) = value.Number vhost ∷ value.Number bits ∷ []
command_values names (VNum vhost ring num) = value.Number vhost ∷ value.Number ring ∷ value.Number num ∷ []
command_values names (VBase vhost ring base) = value.Number vhost ∷ value.Number ring ∷ value.Number base ∷ []
command_values names (VAddr vhost ring desc avail used) =
    value.Number vhost ∷ value.Number ring ∷ value.Number desc ∷ value.Number avail ∷ value.Number used ∷ []
command_values names (GetBase vhost ring) = value.Number vhost ∷ value.Number ring ∷ []
command_values names (Backend vhost ring file) = value.Number vhost ∷ value.Number ring ∷ option_value file ∷ []
command_values names (RxTurn vhost) = value.Number vhost ∷ []
command_values names (TxTurn vhost) = value.Number vhost ∷ []
command_values names (Poke guest addr bytes) = value.Number guest ∷ value.Number addr ∷ value.Bytes bytes ∷ []
command_values names (Peek guest addr len) = value.Number guest ∷ value.Number addr ∷ value.Number len ∷ []
command_values names (DriveAt vhost ring addr) = value.Number vhost ∷ value.Number ring ∷ value.Number addr ∷ []
command_values names (PostIn vhost ring lens) = value.Number vhost ∷ value.Number ring ∷ map value.Number lens
command_values names (PostOut vhost ring bytes) = value.Number vhost ∷ value.Number ring ∷ value.Bytes bytes ∷ []
command_values names (Harvest vhost ring) = value.Number vhost ∷ value.Number ring ∷ []

-- ---- what a command names

-- the file that a command names
abbrev pub file_of : Command → Option ℕ
file_of (SetIff file name flags) = Some file
file_of (SetQueue file flags) = Some file
file_of (Close file) = Some file
file_of (Persist file on) = Some file
file_of (HdrSize file size) = Some file
file_of (Steer file program) = Some file
file_of (Filter file program) = Some file
file_of (Resize file capacity) = Some file
file_of (Read file room) = Some file
file_of (Write file bytes) = Some file
file_of (Backend vhost ring file) = file
file_of c = None

-- the guest that a command names
abbrev pub guest_of : Command → Option ℕ
guest_of (Poke guest addr bytes) = Some guest
guest_of (Peek guest addr len) = Some guest
guest_of c = None

-- the vhost that a command names
abbrev pub vhost_of : Command → Option ℕ
vhost_of (Features vhost bits) = Some vhost
vhost_of (VNum vhost ring num) = Some vhost
vhost_of (VBase vhost ring base) = Some vhost
vhost_of (VAddr vhost ring desc avail used) = Some vhost
vhost_of (GetBase vhost ring) = Some vhost
vhost_of (Backend vhost ring file) = Some vhost
vhost_of (RxTurn vhost) = Some vhost
vhost_of (TxTurn vhost) = Some vhost
vhost_of (DriveAt vhost ring addr) = Some vhost
vhost_of (PostIn vhost ring lens) = Some vhost
vhost_of (PostOut vhost ring bytes) = Some vhost
vhost_of (Harvest vhost ring) = Some vhost
vhost_of c = None

-- the program that a command names
abbrev pub program_of : Command → Option ℕ
program_of (Steer file program) = program
program_of (Filter file program) = program
program_of c = None

-- a turn of a worker
abbrev pub is_turn : Command → Bool
is_turn (RxTurn vhost) = true
is_turn (TxTurn vhost) = true
is_turn c = false

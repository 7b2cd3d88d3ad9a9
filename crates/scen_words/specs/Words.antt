-- This project's own: the words of a scenario, each with its spelling and the form of the fields behind it.
use Rattle.std.specs.Prelude.{ℕ, Bool, true, ◌&&◌, nat_le, List, [], ◌∷◌, ◌++◌, map, codes, Option, find}
use Rattle.std.specs.Str.{bytes_eq}
use Rattle.text_fields.specs.declared.form.Rest.TheVariants.{Nothing, Optional, Repeated}
use Rattle.text_fields.specs.FormData.{Form}
use Rattle.scen_words.specs.declared.word.CommandWord.{CommandWord}
use Rattle.scen_words.specs.declared.word.CommandWord.TheVariants as command
use Rattle.scen_words.specs.declared.word.DeclarationWord.{DeclarationWord}
use Rattle.scen_words.specs.declared.word.DeclarationWord.TheVariants as declaration
use Rattle.scen_words.specs.declared.word.Word.{Word}
use Rattle.scen_words.specs.declared.word.Word.TheVariants as word
use Rattle.scen_words.specs.Kinds.{file_number, guest_number, vhost_number, program_number, capacity, first_place, device, flags, switch, below_32_bits, clock, hex_bytes, room, feature_bits, ring, any_ring, any_number, peek_length, actors, flow_limit, flow_age, program_or_none, file_or_none, header}

-- ---- how each word is spelled

abbrev pub declaration_spelling : DeclarationWord → List ℕ
declaration_spelling declaration.File = codes "file"
declaration_spelling declaration.Region = codes "region"
declaration_spelling declaration.Vhost = codes "vhost"
declaration_spelling declaration.Prog = codes "prog"
declaration_spelling declaration.Flows = codes "flows"

abbrev pub command_spelling : CommandWord → List ℕ
command_spelling command.SetIff = codes "setiff"
command_spelling command.SetQueue = codes "setqueue"
command_spelling command.Close = codes "close"
command_spelling command.Persist = codes "persist"
command_spelling command.HdrSize = codes "hdrsize"
command_spelling command.Steer = codes "steer"
command_spelling command.Filter = codes "filter"
command_spelling command.Tick = codes "tick"
command_spelling command.Resize = codes "resize"
command_spelling command.Send = codes "send"
command_spelling command.Read = codes "read"
command_spelling command.Write = codes "write"
command_spelling command.Features = codes "features"
command_spelling command.VNum = codes "vnum"
command_spelling command.VBase = codes "vbase"
command_spelling command.VAddr = codes "vaddr"
command_spelling command.GetBase = codes "getbase"
command_spelling command.Backend = codes "backend"
command_spelling command.RxTurn = codes "rxturn"
command_spelling command.TxTurn = codes "txturn"
command_spelling command.Poke = codes "poke"
command_spelling command.Peek = codes "peek"
command_spelling command.Drive = codes "drive"
command_spelling command.PostIn = codes "postin"
command_spelling command.PostOut = codes "postout"
command_spelling command.Harvest = codes "harvest"

abbrev pub spelling : Word → List ℕ
spelling (word.Declares w) = declaration_spelling w
spelling (word.Orders w) = command_spelling w
spelling word.Phase = codes "phase"
spelling word.End = codes "end"

-- ---- the fields behind each word

abbrev pub declaration_form : DeclarationWord → Form
declaration_form declaration.File = record { kinds = file_number ∷ capacity ∷ []; rest = Optional first_place }
declaration_form declaration.Region = record { kinds = guest_number ∷ any_number ∷ any_number ∷ []; rest = Nothing }
declaration_form declaration.Vhost = record { kinds = vhost_number ∷ guest_number ∷ []; rest = Nothing }
declaration_form declaration.Prog = record { kinds = program_number ∷ hex_bytes ∷ []; rest = Nothing }
declaration_form declaration.Flows = record { kinds = device ∷ flow_limit ∷ flow_age ∷ []; rest = Nothing }

abbrev pub command_form : CommandWord → Form
command_form command.SetIff = record { kinds = file_number ∷ device ∷ flags ∷ []; rest = Nothing }
command_form command.SetQueue = record { kinds = file_number ∷ flags ∷ []; rest = Nothing }
command_form command.Close = record { kinds = file_number ∷ []; rest = Nothing }
command_form command.Persist = record { kinds = file_number ∷ switch ∷ []; rest = Nothing }
command_form command.HdrSize = record { kinds = file_number ∷ below_32_bits ∷ []; rest = Nothing }
command_form command.Steer = record { kinds = file_number ∷ program_or_none ∷ []; rest = Nothing }
command_form command.Filter = record { kinds = file_number ∷ program_or_none ∷ []; rest = Nothing }
command_form command.Tick = record { kinds = clock ∷ []; rest = Nothing }
command_form command.Resize = record { kinds = file_number ∷ capacity ∷ []; rest = Nothing }
command_form command.Send = record { kinds = device ∷ header ∷ hex_bytes ∷ []; rest = Nothing }
command_form command.Read = record { kinds = file_number ∷ room ∷ []; rest = Nothing }
command_form command.Write = record { kinds = file_number ∷ hex_bytes ∷ []; rest = Nothing }
command_form command.Features = record { kinds = vhost_number ∷ feature_bits ∷ []; rest = Nothing }
command_form command.VNum = record { kinds = vhost_number ∷ any_ring ∷ any_number ∷ []; rest = Nothing }
command_form command.VBase = record { kinds = vhost_number ∷ any_ring ∷ any_number ∷ []; rest = Nothing }
command_form command.VAddr =
    record { kinds = vhost_number ∷ any_ring ∷ any_number ∷ any_number ∷ any_number ∷ []; rest = Nothing }
command_form command.GetBase = record { kinds = vhost_number ∷ any_ring ∷ []; rest = Nothing }
command_form command.Backend = record { kinds = vhost_number ∷ any_ring ∷ file_or_none ∷ []; rest = Nothing }
command_form command.RxTurn = record { kinds = vhost_number ∷ []; rest = Nothing }
command_form command.TxTurn = record { kinds = vhost_number ∷ []; rest = Nothing }
command_form command.Poke = record { kinds = guest_number ∷ any_number ∷ hex_bytes ∷ []; rest = Nothing }
command_form command.Peek = record { kinds = guest_number ∷ any_number ∷ peek_length ∷ []; rest = Nothing }
command_form command.Drive = record { kinds = vhost_number ∷ ring ∷ any_number ∷ []; rest = Nothing }
command_form command.PostIn = record { kinds = vhost_number ∷ ring ∷ []; rest = Repeated below_32_bits }
command_form command.PostOut = record { kinds = vhost_number ∷ ring ∷ hex_bytes ∷ []; rest = Nothing }
command_form command.Harvest = record { kinds = vhost_number ∷ ring ∷ []; rest = Nothing }

abbrev pub form : Word → Form
form (word.Declares w) = declaration_form w
form (word.Orders w) = command_form w
form word.Phase = record { kinds = actors ∷ []; rest = Nothing }
form word.End = record { kinds = []; rest = Nothing }

-- ---- which word a field is

abbrev pub declaration_words : List DeclarationWord
declaration_words =
    declaration.File ∷ declaration.Region ∷ declaration.Vhost ∷ declaration.Prog ∷ declaration.Flows ∷ []

abbrev pub command_words : List CommandWord
command_words =
    command.SetIff ∷ command.SetQueue ∷ command.Close ∷ command.Persist ∷ command.HdrSize ∷ command.Steer
    ∷ command.Filter ∷ command.Tick ∷ command.Resize ∷ command.Send ∷ command.Read ∷ command.Write
    ∷ command.Features ∷ command.VNum ∷ command.VBase ∷ command.VAddr ∷ command.GetBase ∷ command.Backend
    ∷ command.RxTurn ∷ command.TxTurn ∷ command.Poke ∷ command.Peek ∷ command.Drive ∷ command.PostIn
    ∷ command.PostOut ∷ command.Harvest ∷ []

-- all words
abbrev pub words : List Word
words = map word.Declares declaration_words ++ map word.Orders command_words ++ word.Phase ∷ word.End ∷ []

-- `flows` is a word of version 2 alone
abbrev pub is_in_version : ℕ → Word → Bool
is_in_version version (word.Declares declaration.Flows) = nat_le 2 version
is_in_version version w = true

-- the word of this spelling in this version, if there is one
unfoldable pub word_of : ℕ → List ℕ → Option Word
word_of version field = find (λ w. is_in_version version w && bytes_eq (spelling w) field) words

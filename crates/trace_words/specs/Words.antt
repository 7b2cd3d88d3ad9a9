-- This project's own: the words of lines, steps and answers: how each is spelled, and which a field is.
use Rattle.std.specs.Prelude.{ℕ, List, [], ◌∷◌, codes, Option}
use Rattle.trace_causes.specs.Table.{word_in}
use Rattle.trace_words.specs.declared.words.PlainWord.TheVariants as plain
use Rattle.trace_words.specs.declared.words.HeadWord.{HeadWord}
use Rattle.trace_words.specs.declared.words.HeadWord.TheVariants as head
use Rattle.trace_words.specs.declared.words.KindWord.{KindWord}
use Rattle.trace_words.specs.declared.words.KindWord.TheVariants as kind
use Rattle.trace_words.specs.declared.words.AnswerWord.{AnswerWord}
use Rattle.trace_words.specs.declared.words.AnswerWord.TheVariants as answer

-- the first word of a line
abbrev pub head_spelling : HeadWord → List ℕ
head_spelling head.Begins = codes "taptrace"
head_spelling head.Phase = codes "phase"
head_spelling head.Op = codes "op"
head_spelling head.Answer = codes "ans"
head_spelling head.Resize = codes "resize"
head_spelling head.Got = codes "got"
head_spelling head.Refused = codes "refused"
head_spelling head.File = codes "file"
head_spelling head.Place = codes "line"
head_spelling head.Guest = codes "guest"
head_spelling head.Step = codes "step"
head_spelling head.Ring = codes "ring"
head_spelling head.Base = codes "base"
head_spelling head.Used = codes "used"
head_spelling head.End = codes "end"

abbrev pub head_words : List HeadWord
head_words =
    head.Begins ∷ head.Phase ∷ head.Op ∷ head.Answer ∷ head.Resize ∷ head.Got ∷ head.Refused ∷ head.File ∷
    head.Place ∷ head.Guest ∷ head.Step ∷ head.Ring ∷ head.Base ∷ head.Used ∷ head.End ∷ []

abbrev pub head_word : List ℕ → Option HeadWord
head_word field = word_in head_spelling head_words field

-- the word of a step
abbrev pub kind_spelling : KindWord → List ℕ
kind_spelling kind.Fetch = codes "fetch"
kind_spelling kind.Halt = codes "halt"
kind_spelling kind.Copy = codes "copy"
kind_spelling kind.Publish = codes "publish"
kind_spelling kind.Notices = codes "notices"
kind_spelling kind.Backend = codes "backend"
kind_spelling kind.Features = codes "features"
kind_spelling kind.Poke = codes "poke"
kind_spelling kind.Peek = codes "peek"
kind_spelling (kind.Plain plain.None) = codes "none"
kind_spelling (kind.Plain plain.Crowded) = codes "crowded"
kind_spelling (kind.Plain plain.Off) = codes "off"
kind_spelling (kind.Plain plain.Stopped) = codes "stopped"
kind_spelling (kind.Plain plain.Num) = codes "num"
kind_spelling (kind.Plain plain.Base) = codes "base"
kind_spelling (kind.Plain plain.Addr) = codes "addr"
kind_spelling (kind.Plain plain.GetBase) = codes "getbase"
kind_spelling (kind.Plain plain.Drive) = codes "drive"
kind_spelling (kind.Plain plain.Post) = codes "post"
kind_spelling (kind.Plain plain.Harvest) = codes "harvest"

abbrev pub kind_words : List KindWord
kind_words =
    kind.Fetch ∷ kind.Halt ∷ kind.Copy ∷ kind.Publish ∷ kind.Notices ∷ kind.Backend ∷ kind.Features ∷
    kind.Poke ∷ kind.Peek ∷ kind.Plain plain.None ∷ kind.Plain plain.Crowded ∷ kind.Plain plain.Off ∷
    kind.Plain plain.Stopped ∷ kind.Plain plain.Num ∷ kind.Plain plain.Base ∷ kind.Plain plain.Addr ∷
    kind.Plain plain.GetBase ∷ kind.Plain plain.Drive ∷ kind.Plain plain.Post ∷ kind.Plain plain.Harvest ∷ []

abbrev pub kind_word : List ℕ → Option KindWord
kind_word field = word_in kind_spelling kind_words field

-- the first word of an answer
abbrev pub answer_spelling : AnswerWord → List ℕ
answer_spelling answer.Done = codes "ok"
answer_spelling answer.Host = codes "host"
answer_spelling answer.Base = codes "base"
answer_spelling answer.Peeked = codes "bytes"
answer_spelling answer.Posted = codes "posted"
answer_spelling answer.Harvested = codes "harvest"
answer_spelling answer.NoDriver = codes "nodriver"
answer_spelling answer.Fault = codes "fault"
answer_spelling answer.Turn = codes "turn"
answer_spelling answer.Bad = codes "bad"
answer_spelling answer.Placed = codes "placed"
answer_spelling answer.Dropped = codes "drop"
answer_spelling answer.Read = codes "read"
answer_spelling answer.Refused = codes "err"
answer_spelling answer.Vhost = codes "verr"
answer_spelling answer.Drive = codes "derr"

abbrev pub answer_words : List AnswerWord
answer_words =
    answer.Done ∷ answer.Host ∷ answer.Base ∷ answer.Peeked ∷ answer.Posted ∷ answer.Harvested ∷
    answer.NoDriver ∷ answer.Fault ∷ answer.Turn ∷ answer.Bad ∷ answer.Placed ∷ answer.Dropped ∷ answer.Read ∷
    answer.Refused ∷ answer.Vhost ∷ answer.Drive ∷ []

abbrev pub answer_word : List ℕ → Option AnswerWord
answer_word field = word_in answer_spelling answer_words field

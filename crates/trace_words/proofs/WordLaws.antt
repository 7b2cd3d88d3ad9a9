-- A word is the field that it is spelled as.
use Rattle.std.proofs.Common.{◌≡◌, Some, refl}
use Rattle.trace_words.specs.declared.words.PlainWord.TheVariants as plain
use Rattle.trace_words.specs.declared.words.HeadWord.{HeadWord}
use Rattle.trace_words.specs.declared.words.HeadWord.TheVariants as head
use Rattle.trace_words.specs.declared.words.KindWord.{KindWord}
use Rattle.trace_words.specs.declared.words.KindWord.TheVariants as kind
use Rattle.trace_words.specs.declared.words.AnswerWord.{AnswerWord}
use Rattle.trace_words.specs.declared.words.AnswerWord.TheVariants as answer
use Rattle.trace_causes.specs.Laws.{IsField}
use Rattle.trace_causes.specs.Table.{word_in}
use Rattle.trace_words.specs.Words.{answer_spelling, answer_word, answer_words, head_spelling, head_word, head_words, kind_spelling, kind_word, kind_words}
use Rattle.trace_words.proofs.Chains.{words_field}

head_again : (w : HeadWord) → head_word (head_spelling w) ≡ Some w
unfolding word_in
head_again head.Begins = refl
head_again head.Phase = refl
head_again head.Op = refl
head_again head.Answer = refl
head_again head.Resize = refl
head_again head.Got = refl
head_again head.Refused = refl
head_again head.File = refl
head_again head.Place = refl
head_again head.Guest = refl
head_again head.Step = refl
head_again head.Ring = refl
head_again head.Base = refl
head_again head.Used = refl
head_again head.End = refl

pub head_field : IsField head_word head_spelling (λ w. Unit {0})
head_field = words_field head_spelling head_words refl head_again

kind_again : (w : KindWord) → kind_word (kind_spelling w) ≡ Some w
unfolding word_in
kind_again kind.Fetch = refl
kind_again kind.Halt = refl
kind_again kind.Copy = refl
kind_again kind.Publish = refl
kind_again kind.Notices = refl
kind_again kind.Backend = refl
kind_again kind.Features = refl
kind_again kind.Poke = refl
kind_again kind.Peek = refl
kind_again (kind.Plain plain.None) = refl
kind_again (kind.Plain plain.Crowded) = refl
kind_again (kind.Plain plain.Off) = refl
kind_again (kind.Plain plain.Stopped) = refl
kind_again (kind.Plain plain.Num) = refl
kind_again (kind.Plain plain.Base) = refl
kind_again (kind.Plain plain.Addr) = refl
kind_again (kind.Plain plain.GetBase) = refl
kind_again (kind.Plain plain.Drive) = refl
kind_again (kind.Plain plain.Post) = refl
kind_again (kind.Plain plain.Harvest) = refl

pub kind_field : IsField kind_word kind_spelling (λ w. Unit {0})
kind_field = words_field kind_spelling kind_words refl kind_again

answer_again : (w : AnswerWord) → answer_word (answer_spelling w) ≡ Some w
unfolding word_in
answer_again answer.Done = refl
answer_again answer.Host = refl
answer_again answer.Base = refl
answer_again answer.Peeked = refl
answer_again answer.Posted = refl
answer_again answer.Harvested = refl
answer_again answer.NoDriver = refl
answer_again answer.Fault = refl
answer_again answer.Turn = refl
answer_again answer.Bad = refl
answer_again answer.Placed = refl
answer_again answer.Dropped = refl
answer_again answer.Read = refl
answer_again answer.Refused = refl
answer_again answer.Vhost = refl
answer_again answer.Drive = refl

pub answer_field : IsField answer_word answer_spelling (λ w. Unit {0})
answer_field = words_field answer_spelling answer_words refl answer_again

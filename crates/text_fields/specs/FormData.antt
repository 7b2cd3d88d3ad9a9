-- This project's own: what a form of fields is to a contract.
use Rattle.std.specs.Prelude.{List}
use Rattle.text_fields.specs.declared.form.Rest.{Rest}
use Rattle.text_fields.specs.declared.kind.Kind.{Kind}

-- the kinds of the fields behind a word, and what may follow them
pub record Form : Type 0 where
  pub kinds : List Kind
  pub rest : Rest

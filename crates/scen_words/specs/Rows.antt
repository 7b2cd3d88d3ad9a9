-- This project's own: the lines of declarations and commands, made of rows: a row is the fields of a line.
use Rattle.std.specs.Prelude.{ℕ, List, ◌∷◌}
use Rattle.text_fields.specs.Forms.{fields_for}
use Rattle.scen_words.specs.declared.command.Command.{Command}
use Rattle.scen_words.specs.declared.declaration.Declaration.{Declaration}
use Rattle.scen_words.specs.Commands.{command_values, command_word, declaration_values, declaration_word}
use Rattle.scen_words.specs.Words.{command_form, command_spelling, declaration_form, declaration_spelling}

-- the fields behind the word of a declaration
abbrev pub declaration_fields : List (List ℕ) → Declaration → List (List ℕ)
declaration_fields names d = fields_for (declaration_form (declaration_word d)) (declaration_values names d)

-- a declaration: its word, and the fields behind it
abbrev pub declaration_row : List (List ℕ) → Declaration → List (List ℕ)
declaration_row names d = declaration_spelling (declaration_word d) ∷ declaration_fields names d

-- the fields behind the word of a command
abbrev pub command_fields : List (List ℕ) → Command → List (List ℕ)
command_fields names c = fields_for (command_form (command_word c)) (command_values names c)

-- a command: its word, and the fields behind it
abbrev pub command_row : List (List ℕ) → Command → List (List ℕ)
command_row names c = command_spelling (command_word c) ∷ command_fields names c

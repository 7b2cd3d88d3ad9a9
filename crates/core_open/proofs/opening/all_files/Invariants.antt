use Rattle.std.proofs.Common.{◌≡◌, take}
use Rattle.core_open.specs.Collected.{files_of}
use Rattle.core_open.proofs.opening.all_files.Given as goal

-- those so far
abbrev pub invariant-loop-file : goal.invariant-loop-file
invariant-loop-file l = l.files ≡ files_of (take l.file-index l.declared)

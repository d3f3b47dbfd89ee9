-- Which of the edits of the code are edits of a list.
use Rattle.std.specs.Prelude.{Bool, true, false}
use Rattle.meson_steps.specs.declared.step.ListEdit.{ListEdit}
use Rattle.meson_steps.specs.declared.step.ListEdit.TheVariants as code

-- whether an edit is one of a list
abbrev pub edits_list : ListEdit → Bool
edits_list (code.First new) = true
edits_list (code.After n new) = true
edits_list (code.Remove n) = true
edits_list (code.Replace n new) = true
edits_list (code.Wrap n) = true
edits_list (code.RemoveStatement n blank) = false
edits_list (code.Append new) = false
edits_list (code.Assign new) = false
edits_list (code.Lines side new) = false

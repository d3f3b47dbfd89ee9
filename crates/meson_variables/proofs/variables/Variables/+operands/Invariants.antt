use Rattle.meson_variables.proofs.Words.{◌+◌, ◌*◌}
use Rattle.meson_variables.proofs.variables.Variables.+operands.Given as goal

abbrev pub decreases-is_list_value : goal.decreases-is_list_value
decreases-is_list_value l = 3 * l.left + 2

abbrev pub decreases-is_list_operand : goal.decreases-is_list_operand
decreases-is_list_operand l = 3 * l.left + 1

abbrev pub decreases-is_list_variable : goal.decreases-is_list_variable
decreases-is_list_variable l = 3 * l.left

use Rattle.std.proofs.Common.{Some, ap, ◌∙◌}
use Rattle.meson_lex.specs.declared.kinds.Kind.TheVariants.{PlainString, MultilineString, FormatString, FormatMultilineString}
use Rattle.meson_language_cases.proofs.FirstItem.{first_of_kind}
use Rattle.meson_language_cases.proofs.texts.value_of.Goals as goal

pub literal_value-requires : goal.literal_value-requires
literal_value-requires c = first_of_kind c.args.source.now c.items.result c.next.new.self c.next.result c.in-Some-Ok.item PlainString c.text-token.result.now c.items.ensures.lexed c.next.ensures.steps (c.in-Some-Ok.is ∙ ap Some c.in-Some-Ok.field-0-is) c.text-token.ensures c.in-PlainString.is

pub literal_value-requires-in-MultilineString : goal.literal_value-requires-in-MultilineString
literal_value-requires-in-MultilineString c = first_of_kind c.args.source.now c.items.result c.next.new.self c.next.result c.in-Some-Ok.item MultilineString c.text-token.result.now c.items.ensures.lexed c.next.ensures.steps (c.in-Some-Ok.is ∙ ap Some c.in-Some-Ok.field-0-is) c.text-token.ensures c.in-MultilineString.is

pub literal_value-requires-in-FormatString : goal.literal_value-requires-in-FormatString
literal_value-requires-in-FormatString c = first_of_kind c.args.source.now c.items.result c.next.new.self c.next.result c.in-Some-Ok.item FormatString c.text-token.result.now c.items.ensures.lexed c.next.ensures.steps (c.in-Some-Ok.is ∙ ap Some c.in-Some-Ok.field-0-is) c.text-token.ensures c.in-FormatString.is

pub literal_value-requires-in-FormatMultilineString : goal.literal_value-requires-in-FormatMultilineString
literal_value-requires-in-FormatMultilineString c = first_of_kind c.args.source.now c.items.result c.next.new.self c.next.result c.in-Some-Ok.item FormatMultilineString c.text-token.result.now c.items.ensures.lexed c.next.ensures.steps (c.in-Some-Ok.is ∙ ap Some c.in-Some-Ok.field-0-is) c.text-token.ensures c.in-FormatMultilineString.is

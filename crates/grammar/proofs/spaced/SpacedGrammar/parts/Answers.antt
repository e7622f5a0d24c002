use Rattle.std.proofs.Common.{◌+◌, ◌-◌, Some, sym, ap, ◌∙◌}
use Rattle.grammar.specs.Meaning.{count_of}
use Rattle.grammar.specs.SpacedBounds.{length_intersperse}
use Rattle.grammar.specs.declared.Part.TheVariants.{Symbol}
use Rattle.grammar.proofs.Told.{told_spread}
use Rattle.grammar.proofs.spaced.SpacedGrammar.parts.Goals as goal

pub returns-in-Spread : goal.returns-in-Spread
returns-in-Spread g c =
    let m = g.B.Grammar.meaning c.args.self.now.below in
    let s = told_spread m c.args.rule c.in-Spread.count c.in-Spread.ensures in
    sym (ap count_of s.told_as ∙ ap Some (length_intersperse (Symbol m.symbols) s.below.parts ∙ ap (λ n. n - 1 + n) (sym s.count_is)))

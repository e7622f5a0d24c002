use Rattle.std.proofs.Common.{Some, sym, ap, ◌∙◌}
use Rattle.grammar.specs.declared.Part.TheVariants.{Symbol}
use Rattle.grammar.proofs.Told.{told_spread, part_even, part_odd, part_past}
use Rattle.grammar.proofs.spaced.SpacedGrammar.part.Goals as goal

pub returns-in-Spread : goal.returns-in-Spread
returns-in-Spread g c =
    let m = g.B.Grammar.meaning c.args.self.now.below in
    let s = told_spread m c.args.rule _ c.in-Spread.ensures in
    c.part-in-Spread.ensures ∙ sym (part_even m c.args.rule _ c.args.k s c.if-k-eq0.true)

pub returns-in-Spread-2 : goal.returns-in-Spread-2
returns-in-Spread-2 g c =
    let m = g.B.Grammar.meaning c.args.self.now.below in
    let s = told_spread m c.args.rule _ c.in-Spread.ensures in
    ap (λ w. Some (Symbol w)) c.symbols.ensures ∙ sym (part_odd m c.args.rule _ c.args.k s c.if-k-eq0.false c.if-k-count.true)

pub returns-in-Spread-3 : goal.returns-in-Spread-3
returns-in-Spread-3 g c =
    let m = g.B.Grammar.meaning c.args.self.now.below in
    let s = told_spread m c.args.rule _ c.in-Spread.ensures in
    sym (part_past m c.args.rule _ c.args.k s c.if-k-eq0.false c.if-k-count.false)

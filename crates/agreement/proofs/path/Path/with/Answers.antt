use Rattle.agreement.proofs.Fronts.{front_within, stand_more}
use Rattle.agreement.proofs.path.Path.with.Goals as goal

pub invariant_of-result-clause-within : goal.invariant_of-result-clause-within
invariant_of-result-clause-within c = let p = c.args.self in front_within p.cluster_nodes p.length p.index c.args.node c.requires.of_cluster p.within

pub invariant_of-result-clause-stand : goal.invariant_of-result-clause-stand
invariant_of-result-clause-stand c =
    let p = c.args.self in stand_more p.cluster_nodes p.length p.index c.args.node p.on_it c.with.result p.few c.requires.of_cluster p.stand c.with.ensures

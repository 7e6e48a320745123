use Rattle.std.proofs.Common.{◌≡◌, ◌+◌, ◌*◌, ◌∷◌, ◌∙◌, suc, not, ap, sym, arith}
use Rattle.relay.specs.Paths.{is_path_without, row_at}
use Rattle.relay.proofs.Numbers.{row_at_more}
use Rattle.relay.proofs.indices.barred_in.Goals as goal

pub returns-in-Some : goal.returns-in-Some
returns-in-Some c =
    λ node h.
    let n = c.args.nodes in
    let one : c.args.path_length ≡ suc c.in-Some.row_length = omega (arith, c.in-Some.ensures) in
    let row : row_at n c.args.path_length (c.args.behind * n + node) ≡ node ∷ row_at n c.in-Some.row_length c.args.behind =
    ap (λ k. row_at n k (c.args.behind * n + node)) one ∙ row_at_more n c.in-Some.row_length c.args.behind node h in
    c.barred.ensures node h ∙ ap (λ row. not (is_path_without n c.args.sender row)) (sym row)

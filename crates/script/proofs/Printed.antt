-- The texts of a row, one more of them at a time.
use Rattle.std.proofs.Common.{◌≡◌, ◌∙◌, sym, ap, ℕ, ◌+◌, ◌<◌, List, [], ◌∷◌, ◌++◌, length, take, get_or, append_assoc, append-nil, arith}
use lib.ListN.{length-take}
use Rattle.std.proofs.lemmas.List.{take_more}
use Rattle.script.specs.Text.{each_of}

with_last : {X : Type 0} (text : ℕ → X → List ℕ) (n : ℕ) (row : List X) (x : X) → each_of text n (row ++ x ∷ []) ≡ each_of text n row ++ text (n + length row) x
with_last text n [] x = let at : n ≡ n + 0 = omega arith in append-nil (text n x) ∙ ap (λ m. text m x) at
with_last text n (y ∷ row) x =
    let at : n + 1 + length row ≡ n + length (y ∷ row) = omega arith in
    ap (λ l. text n y ++ l) (with_last text (n + 1) row x ∙ ap (λ m. each_of text (n + 1) row ++ text m x) at)
    ∙ sym (append_assoc (text n y) (each_of text (n + 1) row) (text (n + length (y ∷ row)) x))

pub one_more : {X : Type 0} (text : ℕ → X → List ℕ) (i : ℕ) (row : List X) (x : X) → i < length row → x ≡ get_or row i x →
    each_of text 0 (take i row) ++ text i x ≡ each_of text 0 (take (i + 1) row)
one_more text i row x h here =
    let at : 0 + length (take i row) ≡ i = omega (arith, length-take i row) in
    sym (ap (each_of text 0) (take_more row i x h ∙ ap (λ y. take i row ++ y ∷ []) (sym here))
    ∙ with_last text 0 (take i row) x ∙ ap (λ m. each_of text 0 (take i row) ++ text m x) at)

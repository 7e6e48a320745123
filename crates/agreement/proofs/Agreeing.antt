-- Whatever faulty nodes tell, good nodes come to the same. Assumes nothing.
use Rattle.std.proofs.Common.{◌≡◌, ℕ, zero, suc, ◌+◌, ◌*◌, ◌≤◌, ◌<◌, Bool, true, false, not, ◌==◌, List, [], ◌∷◌, length, inl, inr, sym, refl, ap, ◌∙◌, arith}
use Rattle.std.proofs.lemmas.Bool.{cases_Bool, ltb-true, not-true, or_from, ne_eqb, false≢true}
use Rattle.clock.specs.Rounds.{Good, faulty}
use Rattle.relay.specs.Paths.{stands_in, is_path}
use Rattle.relay.proofs.Told.{path_parts, longer}
use Rattle.agreement.specs.Majority.{majority}
use Rattle.agreement.specs.Results.{made_of_path}
use Rattle.agreement.specs.Holdings.{Tells}
use Rattle.agreement.specs.Theorems.{Agreed}
use Rattle.agreement.proofs.Others.{alike, good_decide, AllFaulty, faulty_path}

-- no good node is on a path with a faulty one in front
all_faulty_more : (good : ℕ → Bool) (r : ℕ) (path : List ℕ) → good r ≡ false → AllFaulty good path → AllFaulty good (r ∷ path)
all_faulty_more good r path is_not all node is_good =
    or_from (r == node) (stands_in node path) (ne_eqb r node (λ same. false≢true (sym is_not ∙ ap good same ∙ is_good))) (all node is_good)

module _ (n faults : ℕ) (good : ℕ → Bool) (held : ℕ → List ℕ → ℕ) (enough : 3 * faults < n) (few : faulty n good ≤ faults) (tell : Tells n faults good held) where
  -- what a good node makes of a path with a good node in front is what this one holds for the path, however many tellings are left
  validity :
      (left p q : ℕ) (path : List ℕ) → Good n good p → Good n good q → is_path n (q ∷ path) ≡ true → length path + left ≡ faults →
      made_of_path n left (held p) (q ∷ path) ≡ held q path
  unfolding made_of_path
  validity zero p q path of_p of_q is long = tell p q path of_p of_q is (omega (arith, long))
  validity (suc left) p q path of_p of_q is long =
      good_decide n (q ∷ path) (λ r. made_of_path n left (held p) (r ∷ q ∷ path)) good (held q path) is (omega (arith, long, enough, few))
      (λ r within free is_good.
      validity left p r (q ∷ path) of_p (within, is_good) (longer n r (q ∷ path) within free is) (omega (arith, long))
      ∙ tell r q path (within, is_good) of_q is (omega (arith, long)))

  -- and two good nodes make the same of any path behind whose first node all are faulty
  agreement :
      (left p q r : ℕ) (path : List ℕ) → Good n good p → Good n good q → is_path n (r ∷ path) ≡ true → AllFaulty good path → length path + left ≡ faults →
      made_of_path n left (held p) (r ∷ path) ≡ made_of_path n left (held q) (r ∷ path)
  unfolding made_of_path
  agreement zero p q r path of_p of_q is all long =
      elim (cases_Bool (good r)) [
        | inl is_good ↦
            let of_r : Good n good r = (ltb-true r n (path_parts n r path is).within, is_good) in
            validity zero p r path of_p of_r is long ∙ sym (validity zero q r path of_q of_r is long)
        | inr is_not ↦ absurd (omega (arith, faulty_path n (r ∷ path) good is (all_faulty_more good r path is_not all), long, few))
      ]
  agreement (suc left) p q r path of_p of_q is all long =
      elim (cases_Bool (good r)) [
        | inl is_good ↦
            let of_r : Good n good r = (ltb-true r n (path_parts n r path is).within, is_good) in
            validity (suc left) p r path of_p of_r is long ∙ sym (validity (suc left) q r path of_q of_r is long)
        | inr is_not ↦
            ap majority (alike (λ node. not (stands_in node (r ∷ path))) (λ k. made_of_path n left (held p) (k ∷ r ∷ path)) (λ k. made_of_path n left (held q) (k ∷ r ∷ path)) 0 n
            (λ k within off.
            agreement left p q k (r ∷ path) of_p of_q (longer n k (r ∷ path) (omega (arith, within)) (not-true (stands_in k (r ∷ path)) off) is)
            (all_faulty_more good r path is_not all) (omega (arith, long))))
      ]

alone : (n r : ℕ) → r < n → is_path n (r ∷ []) ≡ true
alone n r within = longer n r [] within refl refl

pub agreed : Agreed
agreed n faults good held enough few tell = record {
  same = λ p q r of_p of_q within. agreement n faults good held enough few tell faults p q r [] of_p of_q (alone n r within) (λ node is_good. refl) (omega arith);
  right = λ p r of_p of_r. validity n faults good held enough few tell faults p r [] of_p of_r (alone n r of_r.0) (omega arith);
}

-- Reading so many elements, one at a time.
use Rattle.std.specs.Prelude.{◌≡◌, ℕ, suc, ◌+◌, ◌-◌, ◌<◌, List, [], ◌∷◌, ◌++◌, Result, Ok, Err}
use Rattle.std.proofs.Common.{ap, sym, ◌∙◌, arith}
use Rattle.cdf_read.specs.declared.fault.CdfFault.{CdfFault}
use Rattle.cdf_read.specs.declared.fault.CdfFault.TheVariants.{OutOfMemory}
use Rattle.cdf_read.specs.HeaderReading.{◌>>=◌, Fails, many_at}

pub Fails-map : {A B : Type 0} (fault : CdfFault) (read : Result A CdfFault) (all : Result B CdfFault) → (read ≡ Err fault → all ≡ Err fault)
    → Fails fault read → Fails fault all
Fails-map OutOfMemory read all next h = tt
Fails-map fault read all next h = next h

one_more : {A : Type 0} (read : List A → List ℕ → Result (A × List ℕ) CdfFault) (n : ℕ) (earlier : List A) (bytes : List ℕ) (x : A × List ℕ)
    → read earlier bytes ≡ Ok x → many_at read (suc n) earlier bytes ≡ many_at read n (earlier ++ x.0 ∷ []) x.1
one_more read n earlier bytes x e = ap (λ o. o >>= (λ y. many_at read n (earlier ++ y.0 ∷ []) y.1)) e

none_more : {A : Type 0} (read : List A → List ℕ → Result (A × List ℕ) CdfFault) (n : ℕ) (earlier : List A) (bytes : List ℕ) (fault : CdfFault)
    → read earlier bytes ≡ Err fault → many_at read (suc n) earlier bytes ≡ Err fault
none_more read n earlier bytes fault e = ap (λ o. o >>= (λ y. many_at read n (earlier ++ y.0 ∷ []) y.1)) e

-- one element was read
pub many_at-step : {A : Type 0} (read : List A → List ℕ → Result (A × List ℕ) CdfFault) (n i : ℕ) (earlier : List A) (bytes : List ℕ) (x : A)
    (rest : List ℕ) (all : Result (List A × List ℕ) CdfFault) → i < n → read earlier bytes ≡ Ok (x, rest) → many_at read (n - i) earlier bytes ≡ all
    → many_at read (n - (i + 1)) (earlier ++ x ∷ []) rest ≡ all
many_at-step read n i earlier bytes x rest all h e whole =
    let count : n - i ≡ suc (n - (i + 1)) = omega arith in
    sym (ap (λ m. many_at read m earlier bytes) count ∙ one_more read (n - (i + 1)) earlier bytes (x, rest) e) ∙ whole

-- an element has a fault
pub many_at-fails : {A : Type 0} (read : List A → List ℕ → Result (A × List ℕ) CdfFault) (n i : ℕ) (earlier : List A) (bytes : List ℕ) (fault : CdfFault)
    (all : Result (List A × List ℕ) CdfFault) → i < n → Fails fault (read earlier bytes) → many_at read (n - i) earlier bytes ≡ all
    → Fails fault all
many_at-fails read n i earlier bytes fault all h fails whole =
    let count : n - i ≡ suc (n - (i + 1)) = omega arith in
    Fails-map fault (read earlier bytes) all (λ e. sym whole ∙ ap (λ m. many_at read m earlier bytes) count
    ∙ none_more read (n - (i + 1)) earlier bytes fault e) fails

-- nothing is left to read
pub many_at-end : {A : Type 0} (read : List A → List ℕ → Result (A × List ℕ) CdfFault) (n i : ℕ) (earlier : List A) (bytes : List ℕ)
    (all : Result (List A × List ℕ) CdfFault) → n ≡ i → many_at read (n - i) earlier bytes ≡ all → all ≡ Ok (earlier, bytes)
many_at-end read n i earlier bytes all done whole =
    let none : n - i ≡ 0 = omega arith in
    sym whole ∙ ap (λ m. many_at read m earlier bytes) none

-- at the start all is left to read
pub many_at-start : {A : Type 0} (read : List A → List ℕ → Result (A × List ℕ) CdfFault) (n : ℕ) (earlier : List A) (bytes : List ℕ)
    → many_at read (n - 0) earlier bytes ≡ many_at read n earlier bytes
many_at-start read n earlier bytes = let all : n - 0 ≡ n = omega arith in ap (λ m. many_at read m earlier bytes) all

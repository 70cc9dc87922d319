-- Bytes that were read ahead are taken.
use Rattle.std.proofs.Common.{◌≡◌, ◌+◌, ◌-◌, ◌≤◌, ◌++◌, ℕ, List, length, take, drop, ap, sym, ◌∙◌, arith, append_assoc, length-append, length-drop}
use Rattle.std.proofs.lemmas.List.{take-append-le, drop-append-le, take-append-drop}
use Rattle.std.proofs.Math.Seq.{take-append-add}
use Rattle.stream_io.specs.Talk.{Talk, Took}
use Rattle.stream_host.specs.Buffered.{buffered_talk}

front : (t f a : List ℕ) (n : ℕ) → t ≡ f ++ a → n ≤ length a → take (length t - length (drop n a)) t ≡ f ++ take n a
front t f a n e le =
    let size : length t - length (drop n a) ≡ length f + n =
    (let x = ap length e ∙ length-append f a in let y = length-drop n a in omega arith) in
    ap (λ m. take m t) size ∙ ap (take (length f + n)) e ∙ take-append-add f a n

-- what is left is still the last that was taken
pub still : (t f a b : List ℕ) (n : ℕ) → t ≡ f ++ a → b ≡ drop n a → n ≤ length a → t ≡ take (length t - length b) t ++ b
still t f a b n e same le =
    e ∙ ap (λ x. f ++ x) (sym (take-append-drop n a)) ∙ sym (append_assoc f (take n a) (drop n a))
    ∙ ap (λ x. x ++ drop n a) (sym (front t f a n e le)) ∙ ap (λ x. take (length t - length x) t ++ x) (sym same)

pub served : (inner : Talk) (a b held : List ℕ) (n : ℕ) → n ≤ length a → b ≡ drop n a
    → inner.taken ≡ take (length inner.taken - length a) inner.taken ++ a
    → Took (buffered_talk inner a held) (buffered_talk inner b held) n
served inner a b held n le same e =
    let t = inner.taken in
    record {
      there = (let l = length-append a inner.left in omega arith);
      taken = ap (λ x. take (length t - length x) t) same ∙ front t (take (length t - length a) t) a n e le
          ∙ ap (λ x. take (length t - length a) t ++ x) (sym (take-append-le n a inner.left le));
      left = ap (λ x. x ++ inner.left) same ∙ sym (drop-append-le n a inner.left le);
    }

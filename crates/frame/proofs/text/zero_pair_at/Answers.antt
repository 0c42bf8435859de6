-- The pairs before the one found are no zero pairs, and where none is found none is.
use Rattle.std.proofs.Common.{◌≡◌, ℕ, true, false, List, Bor, rules, tests, arith}
use Rattle.frame.proofs.Ends.{pair_first, pair_none, pair_told, told, told_of, zero_pair_in}
use Rattle.frame.proofs.text.zero_pair_at.Goals as goal

pub returns-in-Some : goal.returns-in-Some
returns-in-Some c =
    let s = c.args.s.now in
    let k = c.in-Some.k in
    let r = c.in-Some.ensures.runs in
    let found = r.2.1 (search (rules, tests)) in
    let chunks = c.chunks_exact.ensures in
    let pieces = simp (r.1, chunks.size, chunks.rest) at (chunks.runs r.0 r.0.seen) in
    let here : zero_pair_in s k ≡ true = told (r.0.at k) found.0 ((pieces (omega arith)).2 k) (λ (x : Bor (List ℕ)) p q. pair_told true k s x.now q.2 (search (rules, tests))) in
    pair_first k s (search rules) here
    (λ j lt. told (r.0.at j) (found.1 j lt) ((pieces (omega arith)).2 j) (λ (x : Bor (List ℕ)) p q. pair_told false j s x.now q.2 (search (rules, tests))))

pub returns-in-None : goal.returns-in-None
returns-in-None c =
    let s = c.args.s.now in
    let r = c.in-None.ensures.runs in
    let found = r.2.1 (search (rules, tests)) in
    let chunks = c.chunks_exact.ensures in
    let pieces = simp (r.1, chunks.size, chunks.rest) at (chunks.runs r.0 r.0.seen) in
    pair_none s (λ j lies. told_of (r.0.at j) _ (r.0.reads j c.args.s (let whole = (pieces (omega arith)).1 r.2.0 in omega arith)) (found j) ((pieces (omega arith)).2 j) (λ (x : Bor (List ℕ)) p q. pair_told false j s x.now q.2 (search (rules, tests))))

use mathlib.Core.Path.{refl, sym, ap, ◌∙◌}
use borrow.Author.Tests.{le-leb, lt-leb, eq-eqb, ne_eqb}
use Rattle.supernode_tree.specs.Reads.{pattern_read}
use Rattle.supernode_tree.proofs.Words.{head-found}
use Rattle.check_patterns.specs.Accepted.{head_right}
use Rattle.check_patterns.proofs.head_holds.Goals as goal

pub returns-in_default : goal.returns-in_default
returns-in_default c =
    let s = c.args in
    ap (head_right s.cones.now s.least) (ap (pattern_read s.words.now) (sym c.in_default.is) ∙ c.read.ensures.result_value)

pub returns-then-p-least : goal.returns-then-p-least
returns-then-p-least c =
    let p = c.in-Some.p in
    let s = c.args in
    let ws = s.words.now in
    let e = head-found ws s.at _ p c.in-Some.ensures.result_value refl in
    sym (ap (head_right s.cones.now s.least) e ∙ rw (lt-leb s.least p.orig_index c.if-p-least.true))

pub returns-then-p-eq0 : goal.returns-then-p-eq0
returns-then-p-eq0 c =
    let p = c.in-Some.p in
    let s = c.args in
    let ws = s.words.now in
    let e = head-found ws s.at _ p c.in-Some.ensures.result_value refl in
    sym (ap (head_right s.cones.now s.least) e ∙ rw (le-leb s.least p.orig_index c.if-p-least.false, eq-eqb p.clique_count 0 c.if-p-eq0.true))

pub returns-then-p-gt-PSD_SIZE : goal.returns-then-p-gt-PSD_SIZE
returns-then-p-gt-PSD_SIZE c =
    let p = c.in-Some.p in
    let s = c.args in
    let ws = s.words.now in
    let e = head-found ws s.at _ p c.in-Some.ensures.result_value refl in
    sym (ap (head_right s.cones.now s.least) e ∙ rw (le-leb s.least p.orig_index c.if-p-least.false, ne_eqb p.clique_count 0 c.if-p-eq0.false, lt-leb p.clique_count 256 c.if-p-gt-PSD_SIZE.true))

pub returns-then-p-gt-VERTICES : goal.returns-then-p-gt-VERTICES
returns-then-p-gt-VERTICES c =
    let p = c.in-Some.p in
    let s = c.args in
    let ws = s.words.now in
    let e = head-found ws s.at _ p c.in-Some.ensures.result_value refl in
    sym (ap (head_right s.cones.now s.least) e ∙ rw (le-leb s.least p.orig_index c.if-p-least.false, ne_eqb p.clique_count 0 c.if-p-eq0.false, le-leb p.clique_count 256 c.if-p-gt-PSD_SIZE.false, lt-leb p.vertex_count 256 c.if-p-gt-VERTICES.true))

pub returns : goal.returns
returns c =
    let p = c.in-Some.p in
    let s = c.args in
    let ws = s.words.now in
    let e = head-found ws s.at _ p c.in-Some.ensures.result_value refl in
    c.is_psd_of.ensures
    ∙ sym (ap (head_right s.cones.now s.least) e ∙ rw (le-leb s.least p.orig_index c.if-p-least.false, ne_eqb p.clique_count 0 c.if-p-eq0.false, le-leb p.clique_count 256 c.if-p-gt-PSD_SIZE.false, le-leb p.vertex_count 256 c.if-p-gt-VERTICES.false))

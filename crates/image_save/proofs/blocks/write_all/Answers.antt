use Rattle.std.proofs.Common.{◌≡◌, ℕ, ◌*◌, ◌/◌, ◌<◌, List, length, get_or, take, drop, sym, ap, ◌∙◌, arith}
use Rattle.image_save.proofs.Writes.{chunk_is, more_written}
use Rattle.image_save.proofs.blocks.write_all.Goals as goal

pub loop-i-preserved : goal.loop-i-preserved
loop-i-preserved g c =
    let s = c.args.store.now in
    let before = c.loop-i.invariant in
    let blocks = c.as_chunks.ensures in
    let few : c.loop-i.i < g.S.Store.count c.loop-i.store = omega (arith, c.loop-i-test.true, blocks.front_len, c.requires.whole, before.0) in
    let some : c.loop-i.i < length c.args.bytes.now / 32 = omega (arith, c.loop-i-test.true, blocks.front_len) in
    let block : (d : List ℕ) → get_or c.as_chunks.result.0.now c.loop-i.i d ≡ take 32 (drop (32 * c.loop-i.i) c.args.bytes.now) =
    λ d. ap (λ xs. get_or xs c.loop-i.i d) blocks.front ∙ chunk_is (length c.args.bytes.now / 32) c.loop-i.i c.args.bytes.now d some in (
      c.write.ensures.count ∙ before.0,
      c.write.ensures.protect ∙ before.1,
      c.write.ensures.shows
          ∙ more_written (g.S.Store.shown s) (g.S.Store.shown c.loop-i.store) c.args.bytes.now _ (g.S.Store.count c.loop-i.store) c.loop-i.i
          (g.S.Store.protected c.loop-i.store) ((g.S.Store.lengths s).of_shown ∙ sym before.0) few (before.1 ∙ c.requires.open) before.2
          (block _),
    )

pub mod ItemListLaws

pub mod ClientLaws
